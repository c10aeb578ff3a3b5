use Rattle.std.proofs.Common.{◌≡◌, true, List, ℕ, Option, Some, ap, sym, ◌∙◌, subst}
use Rattle.std.specs.Borrow.{Bor}
use Rattle.std.specs.Option.{option_map}
use Rattle.aut_base.specs.Label.{LabelTree}
use Rattle.hoa_reader.proofs.labels.Meanings.{is_that_alias, known_heights, known_sizes}
use Rattle.hoa_reader.specs.Described.{expanded}
use Rattle.hoa_reader.specs.inner.Growing.{IsKnownAs, IsKnownBy, IsKnownOne, alias_name, meaning_names}
use Rattle.hoa_reader.specs.Validity.{aliases_among}
use Rattle.hoa_reader.specs.inner.Places.{place_in}
use Rattle.hoa_parser.specs.Raw as raw
use Rattle.hoa_parser.specs.Raw.{raw_tree}
use Rattle.hoa_reader.specs.declared.elaborate.aliases.Known.{Known}
use Rattle.hoa_parser.specs.declared.raw.RawLabel.{RawLabel}
use Rattle.hoa_reader.proofs.elaborate.aliases.known_of.Goals as goal

pub returns-in-Some-find : goal.returns-in-Some-find
returns-in-Some-find c = λ ms defs def there same known among.
    let name = c.in-Some.name.now in
    let found : place_in c.args.known.now name ≡ Some c.in-Some-find.other = sym c.find.ensures ∙ c.in-Some-find.is in
    let P : Option Known → Type 0 = λ o. IsKnownBy ms defs name o in
    let one : IsKnownOne ms defs name c.in-Some-find.other = subst P found (known name) in
    let is : raw_tree c.args.label.now ≡ raw.Alias name = is_that_alias (raw_tree c.args.label.now) name (sym c.alias_in.ensures ∙ ap (option_map (λ (t : Bor (List ℕ)). t.now)) c.in-Some.is) in
    let Q : LabelTree → Type 0 = λ t. IsKnownAs ms defs t c.in-Some-find.other in
    subst Q (sym (ap (expanded ms) is)) one.known

pub returns : goal.returns
returns c = λ ms defs def there same known among.
    let R : RawLabel → Type 0 = λ l. aliases_among (meaning_names ms) (raw_tree l) ≡ true in
    record {
      def = def;
      there = there;
      same = ap (λ l. expanded ms (raw_tree l)) (sym same);
      plain = ap (λ l. alias_name (raw_tree l)) same ∙ sym c.alias_in.ensures ∙ ap (option_map (λ (t : Bor (List ℕ)). t.now)) c.in_default.is;
      among = subst R (sym same) among;
      height = c.growth_of-growth.ensures.height ∙ known_heights ms defs c.args.known.now known (raw_tree c.args.label.now);
      size = c.growth_of-growth.ensures.size ∙ known_sizes ms defs c.args.known.now known (raw_tree c.args.label.now);
    }
