-- The lexer, after blanks, finds the next token.
use Rattle.std.proofs.Common.{◌≡◌, ◌∙◌, ◌++◌, ◌+◌, ◌≤◌, List, None, Option, Some, ap, arith, drop, length, length-drop, subst, sym, take, ℕ}
use Rattle.std.proofs.lemmas.List.{drop-drop, take-append-drop}
use Rattle.std.proofs.lemmas.List.Sums.{prefix_len-le-length}
use Rattle.std.specs.List.{list_all, prefix_len}
use Rattle.word_syntax.proofs.texts.FrontTokens.{front_found, none_found}
use Rattle.word_syntax.proofs.texts.Prefixes.{prefix_all, prefix_stops}
use Rattle.word_syntax.specs.Tokens.{FollowsBlanks, IsWordFront, is_space}
use Rattle.word_syntax.specs.inner.Fronts.{front_token}
use Rattle.word_syntax.specs.inner.Nexts.{IsTokenNext, IsNothing, NoBlankFirst}
use Rattle.word_syntax.specs.declared.token.Token.{Token}

pub blank_bound : (text rest : List ℕ) (at n : ℕ) → at ≤ length text → rest ≡ drop at text → n ≡ prefix_len is_space rest → at + n ≤ length text
blank_bound text rest at n within is count =
    let some : prefix_len is_space rest ≤ length rest = prefix_len-le-length is_space rest in
    let long : length rest ≡ length (drop at text) = ap length is in
    let left = length-drop at text in
    omega arith

after_blanks : (text rest : List ℕ) (at n : ℕ) → rest ≡ drop at text → n ≡ prefix_len is_space rest → FollowsBlanks (drop at text) (drop (at + n) text)
after_blanks text rest at n is count =
    let size : n ≡ prefix_len is_space (drop at text) = count ∙ ap (prefix_len is_space) is in
    record {
      before = take n (drop at text);
      split = sym (take-append-drop n (drop at text)) ∙ ap (λ (x : List ℕ). take n (drop at text) ++ x) (drop-drop n at text);
      blank = ap (λ (k : ℕ). list_all is_space (take k (drop at text))) size ∙ prefix_all is_space (drop at text);
    }

pub found_next : (text rest front : List ℕ) (at n : ℕ) (t : Token) (size : ℕ) (o : Option (Token × ℕ)) → at ≤ length text → rest ≡ drop at text → n ≡ prefix_len is_space rest
    → front ≡ drop (at + n) text → o ≡ front_token front → o ≡ Some (t, size) → IsTokenNext text at t (at + n) (at + n + size)
found_next text rest front at n t size o within is count there found some =
    let f = front_found (drop (at + n) text) t size (ap front_token (sym there) ∙ (sym found ∙ some)) in
    let bound = blank_bound text rest at n within is count in
    let left = length-drop (at + n) text in
    record {
      blanks = after_blanks text rest at n is count;
      front = subst (λ (x : List ℕ). IsWordFront (drop (at + n) text) t x) (drop-drop size (at + n) text) f.front;
      later = omega arith;
      some = omega (arith, f.some);
      within = omega (arith, f.within);
    }

pub found_nothing : (text rest front : List ℕ) (at n : ℕ) (o : Option (Token × ℕ)) → at ≤ length text → rest ≡ drop at text → n ≡ prefix_len is_space rest → front ≡ drop (at + n) text
    → o ≡ front_token front → o ≡ None → IsNothing text at (at + n)
found_nothing text rest front at n o within is count there found none =
    let size : n ≡ prefix_len is_space (drop at text) = count ∙ ap (prefix_len is_space) is in
    record {
      blanks = after_blanks text rest at n is count;
      first = subst NoBlankFirst (ap (λ (k : ℕ). drop k (drop at text)) (sym size) ∙ drop-drop n at text) (prefix_stops is_space (drop at text));
      later = omega arith;
      within = blank_bound text rest at n within is count;
      none = none_found (drop (at + n) text) (ap front_token (sym there) ∙ (sym found ∙ none));
    }
