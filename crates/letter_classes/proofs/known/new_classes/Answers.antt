use Rattle.std.proofs.Common.{◌∙◌, List, ap, arith, length, subst, sym}
use Rattle.std.proofs.lemmas.List.Elements.{All-weaker}
use Rattle.aut_base.proofs.Outcomes.{none_said, some_said}
use Rattle.label_guards.proofs.alike.ClassLeastLaws.{more_by_leasts}
use Rattle.label_guards.specs.Classes.{AreClasses, HasMoreLetterClasses}
use Rattle.label_guards.specs.Store.{Has}
use Rattle.label_guards.specs.declared.guard.Guard.{Guard}
use Rattle.letter_classes.proofs.KnownLists.{all_later, found_known, put_known}
use Rattle.letter_classes.specs.Known.{AreClassesKnown, IsKnown}
use Rattle.letter_classes.proofs.known.new_classes.Goals as goal

pub returns-in_err-made-clause-known : goal.returns-in_err-made-clause-known
returns-in_err-made-clause-known c = all_later c.args.guards.now c.classes.new.self c.classes.ensures.keeps c.args.known.now.entries c.requires.known

pub returns-in_default-clause-known : goal.returns-in_default-clause-known
returns-in_default-clause-known c = all_later c.args.guards.now c.classes.new.self c.classes.ensures.keeps c.args.known.now.entries c.requires.known

pub returns-in_default-clause-classes : goal.returns-in_default-clause-classes
returns-in_default-clause-classes c =
    more_by_leasts c.args.guards.now c.args.list c.args.most (none_said (HasMoreLetterClasses c.args.guards.now c.args.list c.args.most) _ _ c.in_default.is c.in_ok-made.ensures.classes)

pub returns-then-len-gt-MOST_KEPT-clause-known : goal.returns-then-len-gt-MOST_KEPT-clause-known
returns-then-len-gt-MOST_KEPT-clause-known c = all_later c.args.guards.now c.classes.new.self c.classes.ensures.keeps c.args.known.now.entries c.requires.known

pub returns-then-len-gt-MOST_KEPT-clause-classes : goal.returns-then-len-gt-MOST_KEPT-clause-classes
returns-then-len-gt-MOST_KEPT-clause-classes c =
    let new = c.classes.new.self in
    let are = some_said _ (AreClasses new c.args.list c.args.most) _ c.in-Some.made c.in-Some.is c.in_ok-made.ensures.classes in
    let has = All-weaker (Has c.args.guards.now) (Has new) c.classes.ensures.keeps.has c.args.list c.requires.has in
    subst (IsKnown new c.args.list) (sym c.into_vec.ensures) (found_known new c.args.list c.in-Some.made c.args.most has are)

pub returns-then-len-gt-MOST_KEPT-clause-few : goal.returns-then-len-gt-MOST_KEPT-clause-few
returns-then-len-gt-MOST_KEPT-clause-few c =
    let are = some_said _ (AreClasses c.classes.new.self c.args.list c.args.most) _ c.in-Some.made c.in-Some.is c.in_ok-made.ensures.classes in
    omega (arith, are.few, ap (λ (gs : List Guard). length gs) c.into_vec.ensures)

pub returns-in_err-found-clause-known : goal.returns-in_err-found-clause-known
returns-in_err-found-clause-known c = all_later c.args.guards.now c.classes.new.self c.classes.ensures.keeps c.args.known.now.entries c.requires.known

pub returns-in_err-put-clause-known : goal.returns-in_err-put-clause-known
returns-in_err-put-clause-known c =
    subst (AreClassesKnown c.classes.new.self) (sym c.in_err-put.ensures.err) (all_later c.args.guards.now c.classes.new.self c.classes.ensures.keeps c.args.known.now.entries c.requires.known)

pub returns-clause-known : goal.returns-clause-known
returns-clause-known c =
    let new = c.classes.new.self in
    let are = some_said _ (AreClasses new c.args.list c.args.most) _ c.in-Some.made c.in-Some.is c.in_ok-made.ensures.classes in
    let has = All-weaker (Has c.args.guards.now) (Has new) c.classes.ensures.keeps.has c.args.list c.requires.has in
    put_known new c.args.known.now.entries c.put.new.known.entries c.args.list c.in-Some.made c.in_ok-put.ensures.ok
    (all_later c.args.guards.now new c.classes.ensures.keeps c.args.known.now.entries c.requires.known) (found_known new c.args.list c.in-Some.made c.args.most has are)

pub returns-clause-classes : goal.returns-clause-classes
returns-clause-classes c =
    let new = c.classes.new.self in
    let are = some_said _ (AreClasses new c.args.list c.args.most) _ c.in-Some.made c.in-Some.is c.in_ok-made.ensures.classes in
    let has = All-weaker (Has c.args.guards.now) (Has new) c.classes.ensures.keeps.has c.args.list c.requires.has in
    subst (IsKnown new c.args.list) (sym (c.in_ok-found.ensures.items ∙ c.as_slice.ensures)) (found_known new c.args.list c.in-Some.made c.args.most has are)

pub returns-clause-few : goal.returns-clause-few
returns-clause-few c =
    let are = some_said _ (AreClasses c.classes.new.self c.args.list c.args.most) _ c.in-Some.made c.in-Some.is c.in_ok-made.ensures.classes in
    omega (arith, are.few, ap (λ (gs : List Guard). length gs) (c.in_ok-found.ensures.items ∙ c.as_slice.ensures))
