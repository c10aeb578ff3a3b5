-- Languages with a name hidden: those of automata, and those of two languages with the same words.
use Rattle.std.proofs.Common.{◌<◌, ℕ, List, arith, length, map}
use Rattle.std.proofs.lemmas.List.{length-map}
use Rattle.aut_base.specs.Automaton.{Automaton}
use Rattle.aut_base.specs.Word.{NameSet}
use Rattle.ap_project.proofs.AnyHidden.{hidden_any}
use Rattle.ap_project.proofs.FixedName.{hidden_absent, hidden_present}
use Rattle.ap_project.proofs.Letters.{including, without}
use Rattle.ap_project.specs.Hiding.{AcceptsHidden, AgreeOff, HiddenSays, SomeWord}
use Rattle.ap_project.specs.Laws.{IsHidden, SayTheSame}
use Rattle.ap_project.specs.declared.hide.Hide.{Hide}
use Rattle.ap_project.specs.declared.hide.Hide.TheVariants.{Any, Absent, Present}

pub accepts_hidden : (how : Hide) (name : List ℕ) (a h : Automaton) → IsHidden how name a h → AcceptsHidden how name a h
accepts_hidden Any name a h is u v some = hidden_any name a h is u v some
accepts_hidden Absent name a h is u v some = hidden_absent name a h is u v
accepts_hidden Present name a h is u v some = hidden_present name a h is u v

some_there : (f : NameSet → NameSet) (v : List NameSet) → 0 < length v → 0 < length (map f v)
some_there f v some = omega (arith, some, length-map v f)

pub said_too : (one other Like : List NameSet → List NameSet → Type 0) → SayTheSame one other → SomeWord one Like → SomeWord other Like
said_too one other Like same word = record {
  stem = word.stem;
  cycle = word.cycle;
  some = word.some;
  said = (same word.stem word.cycle word.some).0 word.said;
  same = word.same;
}

pub same_hidden : (how : Hide) (name : List ℕ) (one other : List NameSet → List NameSet → Type 0) → SayTheSame one other → SayTheSame (HiddenSays how name one) (HiddenSays how name other)
same_hidden Any name one other same u v some = (said_too one other (AgreeOff name u v) same, said_too other one (AgreeOff name u v) (λ x y long. ((same x y long).1, (same x y long).0)))
same_hidden Absent name one other same u v some = same (map (without name) u) (map (without name) v) (some_there (without name) v some)
same_hidden Present name one other same u v some = same (map (including name) u) (map (including name) v) (some_there (including name) v some)
