-- The names that headers have.
use Rattle.std.proofs.Common.{◌≡◌, ◌≢◌, ◌↔◌, ◌||◌, ℕ, Bool, true, false, cond, List, refl, sym}
use Rattle.std.specs.Prelude.{codes}
use Rattle.std.specs.List.{list_any}
use Rattle.std.proofs.lemmas.Bool.{false≢true}
use Rattle.std.proofs.lemmas.Bool.Decides.{Decides-eqb}
use Rattle.std.proofs.lemmas.Slice.Eq.{slice_eq-Decides}
use Rattle.aut_base.specs.Text.{same_text}
use Rattle.hoa_parser.specs.Grammar.{known_headers}
use Rattle.hoa_parser.specs.Headers.{header_of}
use Rattle.hoa_parser.specs.declared.header.Header.{Header}
use Rattle.hoa_parser.specs.declared.header.Header.TheVariants as header
use Rattle.aut_base.proofs.numbers.Truth.{cond_either}

-- the name that every header of this kind has
abbrev pub IsNamed : List ℕ → Header → Type 0
IsNamed name header.States = name ≡ codes "States"
IsNamed name header.Start = name ≡ codes "Start"
IsNamed name header.Ap = name ≡ codes "AP"
IsNamed name header.Alias = name ≡ codes "Alias"
IsNamed name header.Acceptance = name ≡ codes "Acceptance"
IsNamed name header.AccName = name ≡ codes "acc-name"
IsNamed name header.Tool = name ≡ codes "tool"
IsNamed name header.Name = name ≡ codes "name"
IsNamed name header.Properties = name ≡ codes "properties"
IsNamed name header.Opening = name ≡ codes "HOA"
IsNamed name header.State = name ≡ codes "State"
IsNamed name header.Other = Unit {0}

pub same : (a b : List ℕ) → same_text a b ≡ true → a ≡ b
same a b e = (slice_eq-Decides Decides-eqb a b (same_text a b) refl).0 e

pub named : (name : List ℕ) → IsNamed name (header_of name)
named name =
    let P : Header → Type 0 = IsNamed name in
    cond_either P (same_text name (codes "States")) header.States _ (same name (codes "States"))
    (cond_either P (same_text name (codes "Start")) header.Start _ (same name (codes "Start"))
    (cond_either P (same_text name (codes "AP")) header.Ap _ (same name (codes "AP"))
    (cond_either P (same_text name (codes "Alias")) header.Alias _ (same name (codes "Alias"))
    (cond_either P (same_text name (codes "Acceptance")) header.Acceptance _ (same name (codes "Acceptance"))
    (cond_either P (same_text name (codes "acc-name")) header.AccName _ (same name (codes "acc-name"))
    (cond_either P (same_text name (codes "tool")) header.Tool _ (same name (codes "tool"))
    (cond_either P (same_text name (codes "name")) header.Name _ (same name (codes "name"))
    (cond_either P (same_text name (codes "properties")) header.Properties _ (same name (codes "properties"))
    (cond_either P (same_text name (codes "HOA")) header.Opening _ (same name (codes "HOA"))
    (cond_either P (same_text name (codes "State")) header.State header.Other (same name (codes "State")) tt))))))))))

-- A name is asked for, and then others: it is none of them exactly where what is said is that of another name.
one_more : (is others : Bool) (said more : Header) → said ≢ header.Other → (others ≡ false ↔ more ≡ header.Other) → ((is || others) ≡ false ↔ cond is said more ≡ header.Other)
one_more true others said more known rest = ((λ e. absurd (false≢true (sym e))), (λ e. absurd (known e)))
one_more false others said more known rest = rest

-- A name is that of another header exactly where it is none of those that are known.
pub unknown : (name : List ℕ) → list_any (same_text name) known_headers ≡ false ↔ header_of name ≡ header.Other
unknown name =
    one_more (same_text name (codes "States")) _ header.States _ (λ e. cc)
    (one_more (same_text name (codes "Start")) _ header.Start _ (λ e. cc)
    (one_more (same_text name (codes "AP")) _ header.Ap _ (λ e. cc)
    (one_more (same_text name (codes "Alias")) _ header.Alias _ (λ e. cc)
    (one_more (same_text name (codes "Acceptance")) _ header.Acceptance _ (λ e. cc)
    (one_more (same_text name (codes "acc-name")) _ header.AccName _ (λ e. cc)
    (one_more (same_text name (codes "tool")) _ header.Tool _ (λ e. cc)
    (one_more (same_text name (codes "name")) _ header.Name _ (λ e. cc)
    (one_more (same_text name (codes "properties")) _ header.Properties _ (λ e. cc)
    (one_more (same_text name (codes "HOA")) _ header.Opening _ (λ e. cc)
    (one_more (same_text name (codes "State")) false header.State header.Other (λ e. cc) ((λ e. refl), (λ e. refl))))))))))))
