-- What a fault of the lexer is to the reader.
use Rattle.hoa_lexer.specs.declared.token.LexFault as lexing
use Rattle.hoa_parser.specs.declared.fault.ReadFault.{ReadFault}
use Rattle.hoa_parser.specs.declared.fault.ReadFault.TheVariants.{Syntax, Truncated, Bytes, Read, Memory}

abbrev pub read_fault : lexing.LexFault → ReadFault
read_fault (lexing.LexFault.BadToken k) = Syntax k
read_fault lexing.LexFault.OpenComment = Truncated
read_fault lexing.LexFault.OpenString = Truncated
read_fault lexing.LexFault.OpenToken = Truncated
read_fault lexing.LexFault.Read = Read
read_fault lexing.LexFault.Bytes = Bytes
read_fault lexing.LexFault.Memory = Memory
