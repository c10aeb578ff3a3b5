-- Strings in quotes (HOA v1, STRING): what is read as their bytes, and how bytes are written.
use Rattle.std.specs.Prelude.{◌≢◌, ◌==◌, ◌||◌, ℕ, List, [], ◌∷◌, ◌++◌, codes, flat_map, if◌then◌else◌}

-- What stands between the quotes of a string, and the bytes that it means: `\` and a byte mean that byte, and any
-- other byte but `"` means itself.
pub data Quotes : List ℕ → List ℕ → Type 0 where
  nothing : Quotes [] []
  escaped : {b : ℕ} {inner text : List ℕ} → Quotes inner text → Quotes (92 ∷ b ∷ inner) (b ∷ text)
  plain : {b : ℕ} {inner text : List ℕ} → b ≢ 34 → b ≢ 92 → Quotes inner text → Quotes (b ∷ inner) (b ∷ text)

-- `"` and `\` are preceded by `\`
abbrev pub escaped_byte : ℕ → List ℕ
escaped_byte b = if (b == 34) || (b == 92) then 92 ∷ b ∷ [] else b ∷ []

abbrev pub quoted : List ℕ → List ℕ
quoted text = codes "\"" ++ (flat_map escaped_byte text ++ codes "\"")
