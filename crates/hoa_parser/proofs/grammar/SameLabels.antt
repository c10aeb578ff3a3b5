-- The tokens of a label have one meaning and one end.
use Rattle.std.proofs.Common.{◌≡◌, List, [], ◌∷◌, ◌++◌, refl, sym, ◌∙◌, ap}
use Rattle.std.specs.Prelude.{codes}
use Rattle.std.proofs.Math.Path.{ap₂}
use Rattle.std.proofs.lemmas.List.{append_assoc}
use Rattle.hoa_lexer.specs.declared.token.Token.{Token}
use Rattle.hoa_lexer.specs.declared.token.Token.TheVariants.{Bang, Amp, Bar, LeftParen, RightParen}
use Rattle.hoa_parser.specs.Raw as raw
use Rattle.hoa_parser.specs.Phrases.{Label, Lands, Lnots, Lnot, raw_conjunction, disjunction, label_tokens, lands_tokens, lnots_tokens, lnot_tokens}
use Rattle.hoa_parser.specs.Phrases.{label_meaning, lands_meaning, lnots_meaning, lnot_meaning}
use Rattle.hoa_parser.specs.Phrases.Label.{label}
use Rattle.hoa_parser.specs.Phrases.Lands.{no_land, or_land}
use Rattle.hoa_parser.specs.Phrases.Lnots.{no_lnot, and_lnot}
use Rattle.hoa_parser.specs.Phrases.Lnot.{true_label, false_label, proposition, alias, negated, group}
use Rattle.hoa_parser.proofs.grammar.JoinedParts.{ap₃}
use Rattle.hoa_parser.proofs.grammar.Stops.{Stops, IsSame, is_amp, is_join, join_no_amp, stops_not, later_tokens, words_apart}
use Rattle.aut_base.proofs.lists.Lists.{append_three}

-- what follows the factors of a conjunction
lands_stop : (ls : Lands) (c : List Token) → Stops is_join c → Stops is_amp (lands_tokens ls ++ c)
lands_stop no_land c s = join_no_amp c s
lands_stop (or_land f fs ls) c s = refl

mutual
  pub same_label : (l m : Label) (c d : List Token) → label_tokens l ++ c ≡ label_tokens m ++ d → Stops is_join c → Stops is_join d → IsSame (label_meaning l) (label_meaning m) c d
  same_label (label f fs ls) (label g gs ms) c d e s t =
      let a = same_lnot f g (lnots_tokens fs ++ (lands_tokens ls ++ c)) (lnots_tokens gs ++ (lands_tokens ms ++ d))
      (sym (append_three (lnot_tokens f) (lnots_tokens fs) (lands_tokens ls) c) ∙ e ∙ append_three (lnot_tokens g) (lnots_tokens gs) (lands_tokens ms) d) in
      let b = same_lnots fs gs (lands_tokens ls ++ c) (lands_tokens ms ++ d) a.rest (lands_stop ls c s) (lands_stop ms d t) in
      let k = same_lands ls ms c d b.rest s t in
      record { value = ap₃ (λ x y z. disjunction (raw_conjunction x y) z) a.value b.value k.value; rest = k.rest }

  pub same_lands : (ls ms : Lands) (c d : List Token) → lands_tokens ls ++ c ≡ lands_tokens ms ++ d → Stops is_join c → Stops is_join d → IsSame (lands_meaning ls) (lands_meaning ms) c d
  same_lands no_land no_land c d e s t = record { value = refl; rest = e }
  same_lands no_land (or_land g gs ms) c d e s t = absurd (stops_not is_join c Bar _ s refl e)
  same_lands (or_land f fs ls) no_land c d e s t = absurd (stops_not is_join d Bar _ t refl (sym e))
  same_lands (or_land f fs ls) (or_land g gs ms) c d e s t =
      let a = same_lnot f g (lnots_tokens fs ++ (lands_tokens ls ++ c)) (lnots_tokens gs ++ (lands_tokens ms ++ d))
      (sym (append_three (lnot_tokens f) (lnots_tokens fs) (lands_tokens ls) c) ∙ later_tokens Bar Bar _ _ e ∙ append_three (lnot_tokens g) (lnots_tokens gs) (lands_tokens ms) d) in
      let b = same_lnots fs gs (lands_tokens ls ++ c) (lands_tokens ms ++ d) a.rest (lands_stop ls c s) (lands_stop ms d t) in
      let k = same_lands ls ms c d b.rest s t in
      record { value = ap₃ (λ x y z. raw_conjunction x y ∷ z) a.value b.value k.value; rest = k.rest }

  pub same_lnots : (fs gs : Lnots) (c d : List Token) → lnots_tokens fs ++ c ≡ lnots_tokens gs ++ d → Stops is_amp c → Stops is_amp d → IsSame (lnots_meaning fs) (lnots_meaning gs) c d
  same_lnots no_lnot no_lnot c d e s t = record { value = refl; rest = e }
  same_lnots no_lnot (and_lnot g gs) c d e s t = absurd (stops_not is_amp c Amp _ s refl e)
  same_lnots (and_lnot f fs) no_lnot c d e s t = absurd (stops_not is_amp d Amp _ t refl (sym e))
  same_lnots (and_lnot f fs) (and_lnot g gs) c d e s t =
      let a = same_lnot f g (lnots_tokens fs ++ c) (lnots_tokens gs ++ d)
      (sym (append_assoc (lnot_tokens f) (lnots_tokens fs) c) ∙ later_tokens Amp Amp _ _ e ∙ append_assoc (lnot_tokens g) (lnots_tokens gs) d) in
      let b = same_lnots fs gs c d a.rest s t in
      record { value = ap₂ (λ x y. x ∷ y) a.value b.value; rest = b.rest }

  pub same_lnot : (f g : Lnot) (c d : List Token) → lnot_tokens f ++ c ≡ lnot_tokens g ++ d → IsSame (lnot_meaning f) (lnot_meaning g) c d
  same_lnot true_label true_label c d e = record { value = refl; rest = later_tokens _ _ c d e }
  same_lnot false_label false_label c d e = record { value = refl; rest = later_tokens _ _ c d e }
  same_lnot (proposition i) (proposition k) c d e = record { value = cc; rest = cc }
  same_lnot (alias a) (alias b) c d e = record { value = cc; rest = cc }
  same_lnot (negated f) (negated g) c d e =
      let a = same_lnot f g c d (later_tokens Bang Bang _ _ e) in
      record { value = ap raw.Not a.value; rest = a.rest }
  same_lnot (group l) (group m) c d e =
      let a = same_label l m (RightParen ∷ c) (RightParen ∷ d)
      (sym (append_assoc (label_tokens l) (RightParen ∷ []) c) ∙ later_tokens LeftParen LeftParen _ _ e ∙ append_assoc (label_tokens m) (RightParen ∷ []) d) refl refl in
      record { value = a.value; rest = later_tokens RightParen RightParen c d a.rest }
  same_lnot true_label false_label c d e = absurd (words_apart (codes "t") (codes "f") c d refl refl e)
  same_lnot false_label true_label c d e = absurd (words_apart (codes "f") (codes "t") c d refl refl e)
  same_lnot _ _ c d e = absurd (cc)
