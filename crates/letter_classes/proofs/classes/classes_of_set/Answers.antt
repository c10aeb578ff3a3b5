use Rattle.aut_core.proofs.Growth.{keeps_on}
use Rattle.letter_classes.proofs.ClassGuards.{few_answer, set_answer}
use Rattle.letter_classes.proofs.classes.classes_of_set.Goals as goal

pub returns-clause-classes : goal.returns-clause-classes
returns-clause-classes c =
    set_answer c.args.a.now c.well_formedness.ensures c.args.set.now c.in_ok-list.list c.in_ok-list.ensures.told c.args.guards.now c.classes.new.self c.requires.store
    (keeps_on c.requires.store c.classes.ensures.keeps) c.args.most c.classes.result (λ cs. cs.items) c.classes.ensures.classes

pub returns-clause-few : goal.returns-clause-few
returns-clause-few c =
    few_answer c.args.a.now c.well_formedness.ensures c.args.set.now c.in_ok-list.list c.in_ok-list.ensures.told c.args.guards.now c.classes.new.self c.requires.store
    (keeps_on c.requires.store c.classes.ensures.keeps) c.args.most c.classes.result (λ cs. cs.items) c.classes.ensures.classes c.classes.ensures.few
