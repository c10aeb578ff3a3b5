-- The words have one plan at most.
use Rattle.std.proofs.Common.{◌≡◌, ◌∙◌, ℕ, List, ap, codes, refl, subst, sym}
use Rattle.std.specs.Prelude.{◌↔◌}
use Rattle.clap.specs.Words.{Row, matches_of}
use Rattle.filter_plan.proofs.Alike.{alike}
use Rattle.filter_plan.proofs.OneReading.{same_file, same_format, same_hidden, same_made, same_number, same_output, same_pattern, same_range}
use Rattle.filter_plan.proofs.TableRows.{given}
use Rattle.filter_plan.specs.Laws.{SamePlan}
use Rattle.filter_plan.specs.Table.{EachGives, figures, refuted, table}
use Rattle.filter_plan.specs.Words.{IsPlan, KeepsRules, autfilt, named_streams, streams_of}
use Rattle.filter_plan.specs.declared.plan.Form.{Form}
use Rattle.filter_plan.specs.declared.plan.Form.TheVariants.{AsIs, Deterministic, Parity, Buchi, RemoveFin, Dnf, Monitor}
use Rattle.filter_plan.specs.declared.plan.Plan.{Plan}
use Rattle.filter_plan.specs.inner.Given.{IsGiven}
use Rattle.word_syntax.specs.Writing.{OneReading}

-- ---- forms

same_form : (f g : Form) → ((form : Form) → (form ≡ AsIs → ⊥) → (f ≡ form) ↔ (g ≡ form)) → f ≡ g
same_form AsIs AsIs same = refl
same_form AsIs Deterministic same = (same Deterministic (λ e. cc)).1 refl
same_form AsIs Parity same = (same Parity (λ e. cc)).1 refl
same_form AsIs Buchi same = (same Buchi (λ e. cc)).1 refl
same_form AsIs RemoveFin same = (same RemoveFin (λ e. cc)).1 refl
same_form AsIs Dnf same = (same Dnf (λ e. cc)).1 refl
same_form AsIs Monitor same = (same Monitor (λ e. cc)).1 refl
same_form Deterministic g same = sym ((same Deterministic (λ e. cc)).0 refl)
same_form Parity g same = sym ((same Parity (λ e. cc)).0 refl)
same_form Buchi g same = sym ((same Buchi (λ e. cc)).0 refl)
same_form RemoveFin g same = sym ((same RemoveFin (λ e. cc)).0 refl)
same_form Dnf g same = sym ((same Dnf (λ e. cc)).0 refl)
same_form Monitor g same = sym ((same Monitor (λ e. cc)).0 refl)

forms_alike : (rows : List Row) (p q : Plan) → EachGives table rows p → EachGives table rows q → p.form ≡ q.form
unfolding table
forms_alike rows p q h k = same_form p.form q.form each
  where
    each : (form : Form) → (form ≡ AsIs → ⊥) → (p.form ≡ form) ↔ (q.form ≡ form)
    each AsIs own = absurd (own refl)
    each Deterministic own = alike rows p q h k (codes "deterministic")
    each Parity own = alike rows p q h k (codes "parity")
    each Buchi own = alike rows p q h k (codes "buchi")
    each RemoveFin own = alike rows p q h k (codes "remove-fin")
    each Dnf own = alike rows p q h k (codes "dnf-acceptance")
    each Monitor own = alike rows p q h k (codes "monitor")

-- ---- all but the patterns

-- the plan with the patterns of another
abbrev with_patterns : Plan → Plan → Plan
with_patterns p q = record q { accept_word = p.accept_word; reject_word = p.reject_word }

same_but_patterns : (rows : List Row) (p q : Plan) → IsGiven rows p → IsGiven rows q → p ≡ with_patterns p q
unfolding table
same_but_patterns rows p q h k =
    let same = alike rows p q h.options k.options in
    let made : p.made ≡ q.made = same (codes "made") same_made in
    let streams : p.streams ≡ q.streams = h.streams ∙ ap (streams_of (named_streams rows)) made ∙ sym k.streams in
    let shown : figures p.output ≡ figures q.output = same (codes "stats") same_format in
    let against : refuted p.output ≡ refuted q.output = same (codes "refute") same_file in
    λ t. record {
      accept_word = p.accept_word;
      reject_word = p.reject_word;
      invert = same (codes "invert-match") t;
      count = same (codes "count") t;
      quiet = same (codes "quiet") t;
      most = same (codes "max-count") same_number t;
      is_empty = same (codes "is-empty") t;
      included_in = same (codes "included-in") same_file t;
      equivalent_to = same (codes "equivalent-to") same_file t;
      intersect = same (codes "intersect") same_file t;
      is_deterministic = same (codes "is-deterministic") t;
      is_complete = same (codes "is-complete") t;
      is_unambiguous = same (codes "is-unambiguous") t;
      states = same (codes "states") same_range t;
      edges = same (codes "edges") same_range t;
      acc_sets = same (codes "acc-sets") same_range t;
      ap = same (codes "ap") same_range t;
      product = same (codes "product") same_file t;
      product_or = same (codes "product-or") same_file t;
      sum = same (codes "sum") same_file t;
      remove_ap = same (codes "remove-ap") same_hidden t;
      trim = same (codes "remove-unreachable-states") t;
      complement = same (codes "complement") t;
      form = forms_alike rows p q h.options k.options t;
      complete = same (codes "complete") t;
      output = same_output p.output q.output shown against t;
      streams = streams t;
      made = made t;
    }

-- the rules between options don't depend on patterns
pub rules_pass_on : (rows : List Row) (p q : Plan) → IsGiven rows p → IsGiven rows q → KeepsRules p → KeepsRules q
rules_pass_on rows p q h k rules =
    let kept = subst KeepsRules (same_but_patterns rows p q h k) rules in
    record { refutes_alone = kept.refutes_alone; made_alone = kept.made_alone; one_dash = kept.one_dash }

-- ---- all of it

same_given : ((text : List ℕ) → OneReading text) → (rows : List Row) (p q : Plan) → IsGiven rows p → IsGiven rows q → SamePlan p q
unfolding table
same_given law rows p q h k = record {
  accept_word = same_pattern law _ p.accept_word q.accept_word (given rows p h.options (codes "accept-word")) (given rows q k.options (codes "accept-word"));
  reject_word = same_pattern law _ p.reject_word q.reject_word (given rows p h.options (codes "reject-word")) (given rows q k.options (codes "reject-word"));
  others = same_but_patterns rows p q h k;
}

pub one_plan : ((text : List ℕ) → OneReading text) → (words : List (List ℕ)) (p q : Plan) → IsPlan words p → IsPlan words q → SamePlan p q
one_plan law words p q h k = same_given law (matches_of autfilt words) p q (record { options = h.options; streams = h.streams }) (record { options = k.options; streams = k.streams })
