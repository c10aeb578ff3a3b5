-- How a lasso word is printed: each letter as a conjunction of literals.
use Rattle.std.specs.Prelude.{ℕ, ◌==◌, ◌&&◌, ◌||◌, Bool, false, not, if◌then◌else◌, Contains, IsTrue, List, [], ◌∷◌, ◌++◌, map, flat_map, codes, nat_le}
use Rattle.std.specs.FinSet.{contains}
use Rattle.std.specs.List.{list_all}
use Rattle.aut_base.specs.LabelText.{joined}
pub use Rattle.aut_base.specs.Strings.{escaped_byte, quoted}
use Rattle.aut_base.specs.Text.{same_text}
use Rattle.aut_base.specs.Word.{NameSet}
use Rattle.word_syntax.specs.Tokens.{is_alphanumeric}

-- `a` to `z` or `_`
abbrev pub is_small : ℕ → Bool
is_small b = (nat_le 97 b && nat_le b 122) || (b == 95)

abbrev pub begins_small : List ℕ → Bool
begins_small [] = false
begins_small (b ∷ bs) = is_small b

-- a keyword of the notation
abbrev pub is_keyword : List ℕ → Bool
is_keyword name = same_text name (codes "true") || (same_text name (codes "false") || same_text name (codes "cycle"))

-- the name needs no quotes: it is spelled as a bare name and begins with a small letter or `_`
abbrev pub is_plain : List ℕ → Bool
is_plain name = begins_small name && (list_all is_alphanumeric name && not (is_keyword name))

abbrev pub name_text : List ℕ → List ℕ
name_text name = if is_plain name then name else quoted name

-- a name with `!` before it where it isn't in the letter
abbrev pub name_literal_text : NameSet → List ℕ → List ℕ
name_literal_text letter name = if contains letter name then name_text name else codes "!" ++ name_text name

-- the literals of all names, or `1` without names
abbrev pub letter_text : List (List ℕ) → NameSet → List ℕ
letter_text [] letter = codes "1"
letter_text (name ∷ names) letter = joined (codes " & ") (map (name_literal_text letter) (name ∷ names))

abbrev pub word_text : List (List ℕ) → List NameSet → List NameSet → List ℕ
word_text names stem cycle =
    flat_map (λ letter. letter_text names letter ++ codes "; ") stem ++ (codes "cycle{" ++ (joined (codes "; ") (map (letter_text names) cycle) ++ codes "}"))

-- the letter has these names alone
abbrev pub HoldsOnly : List (List ℕ) → NameSet → Type 0
HoldsOnly names letter = (name : List ℕ) → IsTrue (contains letter name) → Contains names name
