use Rattle.word_syntax.proofs.texts.WordAnswers.{name_found, no_name, no_token_no_name}
use Rattle.word_syntax.proofs.read.read_name.Goals as goal

pub returns-in-Name : goal.returns-in-Name
returns-in-Name c = name_found c.args.text.now c.as_bytes.result.now c.in_ok-token.field-0 c.in-Some.token c.in-Name.name c.in-Some.size c.as_bytes.ensures c.in_ok-token.ensures c.in-Some.is
    c.in-Name.is

pub returns-in_default : goal.returns-in_default
returns-in_default c = no_name c.args.text.now c.as_bytes.result.now c.in_ok-token.field-0 c.in-Some.token c.in-Some.size c.as_bytes.ensures c.in_ok-token.ensures c.in-Some.is c.in_default.not-Name

pub returns-in-None : goal.returns-in-None
returns-in-None c = no_token_no_name c.args.text.now c.as_bytes.result.now c.in_ok-token.field-0 c.as_bytes.ensures c.in_ok-token.ensures c.in-None.is
