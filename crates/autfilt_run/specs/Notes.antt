-- The lines that are written to the notes: one about an end, one about each automaton that is skipped.
use Rattle.std.specs.Prelude.{ℕ, List, [], ◌++◌, codes}
use Rattle.std.specs.Fmt.{decimal}
use Rattle.aut_base.specs.declared.limit.Limit.{Limit}
use Rattle.aut_base.specs.declared.limit.Limit.TheVariants as limit
use Rattle.autfilt_run.specs.declared.fault.RunFault.{RunFault}
use Rattle.autfilt_run.specs.declared.fault.RunFault.TheVariants as fault
use Rattle.autfilt_run.specs.declared.ended.End.{End}
use Rattle.autfilt_run.specs.declared.ended.End.TheVariants as end
use Rattle.hoa_reader.specs.declared.elaborate.Rule.{Rule}
use Rattle.hoa_reader.specs.declared.elaborate.Rule.TheVariants.{V1, V2, V3, V4, V5, V6, V7, V8, V9, V10, V11, V12}

-- the name of a limit
abbrev pub limit_word : Limit → List ℕ
limit_word limit.Names = codes "names"
limit_word limit.Sets = codes "sets"
limit_word limit.States = codes "states"
limit_word limit.Edges = codes "edges"
limit_word limit.Aliases = codes "aliases"
limit_word limit.Depth = codes "depth"
limit_word limit.Bytes = codes "bytes"
limit_word limit.Terms = codes "terms"
limit_word limit.BuchiStates = codes "buchi-states"
limit_word limit.Trees = codes "trees"
limit_word limit.Nodes = codes "nodes"
limit_word limit.Classes = codes "classes"
limit_word limit.Subsets = codes "subsets"
limit_word limit.Pairs = codes "pairs"

-- the name of a rule
abbrev pub rule_word : Rule → List ℕ
rule_word V1 = codes "V1"
rule_word V2 = codes "V2"
rule_word V3 = codes "V3"
rule_word V4 = codes "V4"
rule_word V5 = codes "V5"
rule_word V6 = codes "V6"
rule_word V7 = codes "V7"
rule_word V8 = codes "V8"
rule_word V9 = codes "V9"
rule_word V10 = codes "V10"
rule_word V11 = codes "V11"
rule_word V12 = codes "V12"

-- the line about an automaton that is skipped, of the text of this name
abbrev pub aborted_line : List ℕ → List ℕ
aborted_line name = codes "autfilt: " ++ (name ++ codes ": automaton aborted\n")

-- a line about the text of this name
abbrev pub line_about : List ℕ → List ℕ → List ℕ
line_about name words = codes "autfilt: " ++ (name ++ (codes ": " ++ (words ++ codes "\n")))

-- the line about a fault; `name` is that of the file that was tried last
abbrev pub line_of_fault : RunFault → List ℕ → List ℕ
line_of_fault fault.CannotOpen name = codes "autfilt: cannot open " ++ (name ++ codes "\n")
line_of_fault fault.ReadFault name = line_about name (codes "read error")
line_of_fault (fault.SyntaxAt k) name = line_about name (codes "syntax error at byte " ++ decimal k)
line_of_fault fault.Truncated name = line_about name (codes "unexpected end of input")
line_of_fault (fault.Invalid rule) name = line_about name (codes "invalid automaton (" ++ (rule_word rule ++ codes ")"))
line_of_fault (fault.Limit which) name = line_about name (codes "limit exceeded: " ++ limit_word which)
line_of_fault fault.WriteFault name = codes "autfilt: write error\n"
line_of_fault fault.Memory name = codes "autfilt: out of memory\n"

-- the line about an end, or nothing where all was read
abbrev pub line_of : End → List ℕ → List ℕ
line_of end.Output name = []
line_of end.NoneOutput name = []
line_of end.Aborts name = []
line_of end.Usage name = codes "autfilt: bad arguments\n"
line_of (end.Fault f) name = line_of_fault f name
