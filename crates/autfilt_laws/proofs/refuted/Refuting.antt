-- Where one automaton accepts a lasso word and another doesn't, there is such a word that is reduced and over the names of
-- both: a word that isn't reduced has a shorter lasso with the same letters. So where there is none, the second accepts all
-- that the first accepts.
use Rattle.std.proofs.Common.{◌≡◌, ◌∙◌, ◌+◌, ◌*◌, ◌<◌, ◌≤◌, ℕ, zero, suc, List, [], ◌∷◌, ◌++◌, All, Contains, ap, arith, get_or, inl, inr, length, map, refl, subst, sym}
use Rattle.std.proofs.Math.Nat.{mul-le-mul_right}
use Rattle.std.proofs.lemmas.List.{length-append, length-map}
use Rattle.std.proofs.lemmas.List.Elements.{All-append, All-contains, All-map}
use Rattle.aut_base.proofs.lists.Copies.{length-copies}
use Rattle.aut_base.proofs.lists.Members.{each_there}
use Rattle.aut_base.proofs.words.SameWord.{same_word_same_verdict}
use Rattle.aut_base.specs.Acceptance.{Accepts}
use Rattle.aut_base.specs.Automaton.{Automaton, IsWellFormed}
use Rattle.aut_base.specs.Word.{NameSet, SpellsSame, copies}
use Rattle.aut_base.specs.declared.letter.Lasso.{Lasso}
use Rattle.aut_core.proofs.JoinedNames.{have_both}
use Rattle.aut_core.specs.OtherNames.{joined_names}
use Rattle.autfilt_laws.proofs.refuted.Deciding.{accepts_or_not}
use Rattle.autfilt_laws.proofs.refuted.Respelling.{root_spells, root_there, turned_spells, turned_there}
use Rattle.autfilt_laws.proofs.refuted.Restricting.{Knows, read_alike, restricted, restricted_holds}
use Rattle.plan_meaning.specs.Limits.{IsIncluded}
use Rattle.plan_meaning.specs.Refutations.{Refutes}
use Rattle.word_syntax.specs.Printing.{HoldsOnly}

-- a counterexample over the names of both, whether it is reduced or not
record Refuting (a b : Automaton) (x y : List NameSet) : Type 0 where
  goes_on : 0 < length y
  own_names : All (HoldsOnly (joined_names a.names b.names)) (x ++ y)
  accepted : Accepts a x y
  rejected : Accepts b x y → ⊥

-- another lasso of the same infinite word, with the same letters
respelled : (a b : Automaton) (x y u v : List NameSet) → 0 < length v → ((z : NameSet) → Contains (u ++ v) z → Contains (x ++ y) z) → SpellsSame x y u v
    → Refuting a b x y → Refuting a b u v
respelled a b x y u v some within same r =
    let P = HoldsOnly (joined_names a.names b.names) in
    record {
      goes_on = some;
      own_names = each_there P (u ++ v) (λ z there. All-contains P (x ++ y) z r.own_names (within z there));
      accepted = (same_word_same_verdict a x y u v r.goes_on some same).0 r.accepted;
      rejected = λ also. r.rejected ((same_word_same_verdict b x y u v r.goes_on some same).1 also);
    }

some_factor : (k l : ℕ) → 0 < k * l → 0 < l
some_factor k zero h = absurd (omega (arith, h))
some_factor k (suc l) h = omega arith

rooted : (a b : Automaton) (x w : List NameSet) (k : ℕ) → 2 ≤ k → Refuting a b x (copies k w) → Refuting a b x w
rooted a b x w k more r =
    let some : 0 < length w = some_factor k (length w) (omega (arith, r.goes_on, length-copies k w)) in
    respelled a b x (copies k w) x w some (λ z there. root_there x w k z (omega (arith, more)) there) (root_spells x w k some r.goes_on) r

turned : (a b : Automaton) (x y : List NameSet) (c : NameSet) → Refuting a b (x ++ c ∷ []) (y ++ c ∷ []) → Refuting a b x (c ∷ y)
turned a b x y c r = respelled a b (x ++ c ∷ []) (y ++ c ∷ []) x (c ∷ y) (omega arith) (turned_there x y c) (turned_spells x y c) r

-- copies are longer
copies_longer : (w : List NameSet) (k : ℕ) → 2 ≤ k → 0 < length (copies k w) → length w < length (copies k w)
copies_longer w k more some =
    let long = length-copies k w in
    let positive : 0 < length w = some_factor k (length w) (omega (arith, some, long)) in
    let twice : 2 * length w ≤ k * length w = mul-le-mul_right (length w) more in
    omega (arith, positive, twice, long)

-- where no reduced word is a counterexample, none is
no_word : (a b : Automaton) → ((w : Lasso) → Refutes a b w → ⊥) → (fuel : ℕ) (x y : List NameSet) → length x + length y < fuel → Refuting a b x y → ⊥
no_word a b none zero x y small r = absurd (omega (arith, small))
no_word a b none (suc n) x y small r = none (record { stem = x; cycle = y; goes_on = r.goes_on }) (record {
  reduced = record {
    primitive = λ w k more is. (
        let as_copies : Refuting a b x (copies k w) = subst (λ (z : List NameSet). Refuting a b x z) is r in
        let long : length y ≡ length (copies k w) = ap (λ (z : List NameSet). length z) is in
        no_word a b none n x w (omega (arith, small, long, copies_longer w k more as_copies.goes_on)) (rooted a b x w k more as_copies));
    stem = λ u v c d stem_is cycle_is same. (
        let cycle : y ≡ v ++ c ∷ [] = cycle_is ∙ ap (λ (z : NameSet). v ++ z ∷ []) (sym same) in
        let stems : Refuting a b (u ++ c ∷ []) y = subst (λ (z : List NameSet). Refuting a b z y) stem_is r in
        let both : Refuting a b (u ++ c ∷ []) (v ++ c ∷ []) = subst (λ (z : List NameSet). Refuting a b (u ++ c ∷ []) z) cycle stems in
        let long : length x ≡ length (u ++ c ∷ []) = ap (λ (z : List NameSet). length z) stem_is in
        let round : length y ≡ length (v ++ c ∷ []) = ap (λ (z : List NameSet). length z) cycle in
        no_word a b none n u (c ∷ v) (omega (arith, small, long, round, length-append u (c ∷ []), length-append v (c ∷ []))) (turned a b u v c both));
  };
  own_names = r.own_names;
  accepted = r.accepted;
  rejected = r.rejected;
})

-- restricted to the names of both, a counterexample stays one
with_own_names : (a b : Automaton) (u v : List NameSet) → Accepts a u v → (Accepts b u v → ⊥)
    → Refuting a b (map (restricted (joined_names a.names b.names)) u) (map (restricted (joined_names a.names b.names)) v)
with_own_names a b u v accepted rejected =
    let names = joined_names a.names b.names in
    let f = restricted names in
    let P = HoldsOnly names in
    let both = have_both a.names b.names names refl in
    let first : Knows names a = λ name there. All-contains (Contains names) a.names name both.first there in
    let second : Knows names b = λ name there. All-contains (Contains names) b.names name both.second there in
    record {
      goes_on = omega (arith, accepted.endless, length-map v f);
      own_names = All-append P (map f u) (map f v)
          (All-map P f u (λ k d within. restricted_holds names (get_or u k d))) (All-map P f v (λ k d within. restricted_holds names (get_or v k d)));
      accepted = (read_alike a names first u v).0 accepted;
      rejected = λ also. rejected ((read_alike b names second u v).1 also);
    }

pub included : (a b : Automaton) → IsWellFormed b → ((w : Lasso) → Refutes a b w → ⊥) → IsIncluded a b
included a b formed none u v accepted = elim (accepts_or_not b formed u v accepted.endless) [
  | inl also ↦ also
  | inr rejected ↦ (
      let f = restricted (joined_names a.names b.names) in
      let size = length (map f u) + length (map f v) in
      absurd (no_word a b none (suc size) (map f u) (map f v) (omega arith) (with_own_names a b u v accepted rejected)))
]
