use Rattle.std.proofs.Common.{◌<◌, All, length, subst, sym}
use Rattle.std.specs.Prelude.{IfOk, MatchOption}
use Rattle.label_guards.specs.ClassLeasts.{class_leasts, labels_in}
use Rattle.label_guards.specs.Store.{Has, Keeps, Store}
use Rattle.letter_classes.specs.Known.{IsKnown}
use Rattle.letter_classes.proofs.store.ClassStore.classes.Goals as goal

pub known_classes-requires-clause-has : goal.known_classes-requires-clause-has
known_classes-requires-clause-has c = subst (λ (s : Store). All (Has s) c.args.list) (sym c.self.view_is) c.requires

pub returns-clause-keeps : goal.returns-clause-keeps
returns-clause-keeps c = subst (λ (s : Store). Keeps s c.known_classes.new.guards) c.self.view_is c.known_classes.ensures.keeps

pub returns-clause-classes : goal.returns-clause-classes
returns-clause-classes c =
    let list = c.args.list in
    let new = c.known_classes.new.guards in
    subst (λ (s : Store). IfOk c.known_classes.result (λ found. MatchOption found (c.args.most < length (class_leasts s.names (labels_in s list))) (λ cs. IsKnown new list cs.items)))
    c.self.view_is c.known_classes.ensures.classes
