-- Paths of moves joined and split, and whether a move of them is accepting.
use Rattle.std.proofs.Common.{◌≡◌, ◌∙◌, ℕ, Bool, true, List, [], ◌∷◌, ◌++◌, Contains, ap, refl, sym, subst}
use Rattle.std.specs.List.{list_any}
use Rattle.std.proofs.lemmas.Bool.{or_left, or_right}
use Rattle.std.proofs.lemmas.List.Folds.{list_any-append}
use Rattle.safra_trees.specs.declared.moves.Move.{Move}
use Rattle.safra_laws.specs.Rounds.{IsMovePath}

pub path_join : (p r q : ℕ) (xs ys : List (List Move)) (es fs : List Move) → IsMovePath p xs es r → IsMovePath r ys fs q → IsMovePath p (xs ++ ys) (es ++ fs) q
path_join p r q [] ys [] fs first second = let P : ℕ → Type 0 = λ s. IsMovePath s ys fs q in subst P (sym first) second
path_join p r q [] ys (e ∷ es) fs first second = absurd first
path_join p r q (x ∷ xs) ys [] fs first second = absurd first
path_join p r q (x ∷ xs) ys (e ∷ es) fs first second = (first.0, first.1, path_join e.to r q xs ys es fs first.2 second)

-- a path with one move appended
pub path_push : (p r q : ℕ) (xs : List (List Move)) (ms : List Move) (es : List Move) (e : Move)
    → IsMovePath p xs es r → Contains ms e → r ≡ e.from → e.to ≡ q → IsMovePath p (xs ++ ms ∷ []) (es ++ e ∷ []) q
path_push p r q xs ms es e leads there from to = path_join p r q xs (ms ∷ []) es (e ∷ []) leads (from, there, to)

-- a path over one list of letters and then another, split in two
pub record Halves (p q : ℕ) (xs ys : List (List Move)) (es : List Move) : Type 0 where
  pub middle : ℕ
  pub front : List Move
  pub back : List Move
  pub parts : es ≡ front ++ back
  pub first : IsMovePath p xs front middle
  pub second : IsMovePath middle ys back q

pub path_split : (p q : ℕ) (xs ys : List (List Move)) (es : List Move) → IsMovePath p (xs ++ ys) es q → Halves p q xs ys es
path_split p q [] ys es path = record { middle = p; front = []; back = es; parts = refl; first = refl; second = path }
path_split p q (x ∷ xs) ys [] path = absurd path
path_split p q (x ∷ xs) ys (e ∷ es) path =
    let rest = path_split e.to q xs ys es path.2 in
    record { middle = rest.middle; front = e ∷ rest.front; back = rest.back; parts = ap (λ (fs : List Move). e ∷ fs) rest.parts; first = (path.0, path.1, rest.first); second = rest.second }

abbrev pub accepting_of : Move → Bool
accepting_of e = e.accepting

pub accepts_first : (es fs : List Move) → list_any (λ e. e.accepting) es ≡ true → list_any (λ e. e.accepting) (es ++ fs) ≡ true
accepts_first es fs h = list_any-append accepting_of es fs ∙ or_left (list_any accepting_of es) (list_any accepting_of fs) h

pub accepts_second : (es fs : List Move) → list_any (λ e. e.accepting) fs ≡ true → list_any (λ e. e.accepting) (es ++ fs) ≡ true
accepts_second es fs h = list_any-append accepting_of es fs ∙ or_right (list_any accepting_of es) (list_any accepting_of fs) h
