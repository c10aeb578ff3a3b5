-- The joined names of two automata are distinct, and include those of both.
use Rattle.std.proofs.Common.{◌≡◌, ◌≢◌, ◌∙◌, not, true, Bool, List, ℕ, AllPairs, All, Contains, ap, filter, refl, subst, sym}
use Rattle.std.proofs.lemmas.Bool.{false≢true}
use Rattle.std.proofs.lemmas.List.Kept.{AllPairs-filter}
use Rattle.aut_base.proofs.canonical.CanonicalAutomata.{labels_below}
use Rattle.aut_base.proofs.lists.Members.{each_there, from_filter}
use Rattle.aut_base.proofs.order.AllPairsOf.{pairs_append}
use Rattle.aut_base.specs.Automaton.{Automaton, IsWellFormed}
use Rattle.aut_core.proofs.JoinedNames.{among, have_both}
use Rattle.aut_core.proofs.OtherNames.{AreAmong, over_accepts, over_well_formed}
use Rattle.aut_core.specs.OtherNames.{AcceptTheSame, is_among, joined_names, over_names}

abbrev Apart : List ℕ → List ℕ → Type 0
Apart p q = p ≢ q

joined_differ : (a b : List (List ℕ)) → AllPairs Apart a → AllPairs Apart b → AllPairs Apart (joined_names a b)
joined_differ a b first second =
    let lacks : List ℕ → Bool = λ name. not (is_among a name) in
    pairs_append Apart a (filter lacks b) first (AllPairs-filter Apart lacks b second)
    (each_there (λ x. All (Apart x) (filter lacks b)) a (λ x here.
    each_there (Apart x) (filter lacks b) (λ y there e. (
    let is : is_among a y ≡ true = among a y (subst (Contains a) e here) in
    false≢true (sym (ap not is) ∙ (from_filter lacks b y there).1)
    ))))

-- two automata whose names are joined
module _ (a b : Automaton) (first : IsWellFormed a) (second : IsWellFormed b) where
  abbrev pub joined : List (List ℕ)
  joined = joined_names a.names b.names

  pub one_among : AreAmong a.names joined
  one_among = record { differ = joined_differ a.names b.names first.names_differ second.names_differ; has = (have_both a.names b.names joined refl).first }

  pub other_among : AreAmong b.names joined
  other_among = record { differ = joined_differ a.names b.names first.names_differ second.names_differ; has = (have_both a.names b.names joined refl).second }

-- an automaton over more names is well formed
pub over_formed : (x : Automaton) (own names : List (List ℕ)) → x.names ≡ own → AreAmong own names → IsWellFormed x → IsWellFormed (over_names names x)
over_formed x own names is among formed = over_well_formed x names (subst (λ (ns : List (List ℕ)). AreAmong ns names) (sym is) among) formed

pub over_same : (x : Automaton) (own names : List (List ℕ)) → x.names ≡ own → AreAmong own names → IsWellFormed x → AcceptTheSame (over_names names x) x
over_same x own names is among formed = over_accepts x names (subst (λ (ns : List (List ℕ)). AreAmong ns names) (sym is) among) (labels_below x formed)
