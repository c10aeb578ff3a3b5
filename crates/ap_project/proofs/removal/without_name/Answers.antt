use Rattle.std.proofs.Common.{◌≢◌, ◌∙◌, All, List, ap, subst, sym, ℕ}
use Rattle.std.proofs.lemmas.Result.{IfOk-weaker}
use Rattle.aut_core.proofs.JoinedNames.{not_among}
use Rattle.aut_core.specs.SymbolicAutomata.{automaton_of}
use Rattle.ap_project.proofs.HiddenAutomata.{hidden_lacking}
use Rattle.ap_project.proofs.removal.without_name.Goals as goal

pub returns-in-None : goal.returns-in-None
returns-in-None c =
    let name = c.args.name.now in
    let lacking = not_among c.args.a.now.names name (subst (λ (ns : List (List ℕ)). All (λ other. other ≢ name) ns) c.names.ensures c.in-None.ensures) in
    IfOk-weaker c.copy.result _ _ (λ made same. ap automaton_of same ∙ sym (hidden_lacking c.args.how name (automaton_of c.args.a.now) lacking)) c.copy.ensures
