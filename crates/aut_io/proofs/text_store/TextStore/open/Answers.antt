use Rattle.std.proofs.Common.{◌≡◌, refl, ◌∙◌, is_some}
use Rattle.std.specs.Cmp.Lexicographic.{slice_cmp}
use Rattle.std.specs.FinMap.{contains_key, from_entries}
use Rattle.std.specs.List.{zip}
use Rattle.std.specs.Ordering.{nat_cmp}
use Rattle.aut_io.specs.InMemory.{rest_of}
use Rattle.aut_io.specs.Outside.{text_of}
use Rattle.aut_io.proofs.Texts.{place_text}
use Rattle.aut_io.proofs.text_store.TextStore.open.Goals as goal

-- an index was found exactly where the map of the texts has the name
found : (c : goal.After-is_some) → (is_some c.place_of-self-inside.result ≡ contains_key (from_entries {R = slice_cmp nat_cmp} (zip c.self.inside.names c.self.inside.texts)) c.args.name.now)
    × (rest_of c.self.inside.texts c.place_of-self-inside.result 0 ≡ text_of (from_entries (zip c.self.inside.names c.self.inside.texts)) c.args.name.now)
found c = place_text _ _ _ _ (rw (c.as_slice.ensures.items, c.as_slice-2.ensures) at c.place_of-self-inside.ensures)

pub returns-clause-there : goal.returns-clause-there
returns-clause-there c = rw (← c.self.view_is) (c.is_some.ensures ∙ (found c).0)

pub returns-clause-opened : goal.returns-clause-opened
returns-clause-opened c = rw (← c.self.view_is, (found c).1, c.saturating_add-self-inside.ensures) refl
