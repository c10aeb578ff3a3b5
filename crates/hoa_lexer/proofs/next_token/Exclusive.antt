-- Where the lexer refuses the bytes, no token is next, and there is more than blanks.
use Rattle.std.proofs.Common.{◌≡◌, ℕ, true, List, [], ◌∷◌, ◌++◌, inl, inr, refl, sym, subst, ◌∙◌, ap, arith}
use Rattle.std.proofs.lemmas.List.{append_assoc, append-nil}
use Rattle.hoa_lexer.specs.Blanks.{ClosesComments, IsBlanks, IsOpenComment}
use Rattle.hoa_lexer.specs.Blanks.IsBlanks.{nothing, space, comment}
use Rattle.hoa_lexer.specs.Bytes.{is_space}
use Rattle.hoa_lexer.specs.Spelling.{Quotes, Spells}
use Rattle.hoa_lexer.specs.Text.{AfterBlanks, BeginsToken, HasFront, IsNoToken, IsOpenString, IsOpenToken}
use Rattle.hoa_lexer.specs.declared.token.Token.{Token}
use Rattle.hoa_lexer.specs.declared.token.Token.TheVariants.{HeaderName, Identifier, Str, Int, Alias}
use Rattle.hoa_lexer.proofs.spelling.FirstBytes.{front_head, token_kind}
use Rattle.hoa_lexer.proofs.next_token.Fronts.{asks_blanks, front_after, front_slashes, front_spaces, same_close, space_no_slash}

-- what begins neither with a token nor with a blank
pub record IsStuck (bytes : List ℕ) : Type 0 where
  pub some : bytes ≡ [] → ⊥
  pub no_space : (b : ℕ) (rest : List ℕ) → bytes ≡ b ∷ rest → is_space b ≡ true → ⊥
  pub no_comment : (body rest : List ℕ) → bytes ≡ 47 ∷ 42 ∷ (body ++ rest) → ClosesComments 1 body → ⊥
  pub no_front : HasFront bytes → ⊥

pub no_token_stuck : (bytes : List ℕ) → IsNoToken bytes → IsStuck bytes
no_token_stuck bytes n = record {
  some = n.some;
  no_space = n.no_space;
  no_comment = λ body rest e k. n.no_comment (body ++ rest) e;
  no_front = λ f. n.no_token (record { more = []; front = subst HasFront (sym (append-nil bytes)) f });
}

pub open_comment_stuck : (bytes : List ℕ) → IsOpenComment bytes → IsStuck bytes
open_comment_stuck bytes o = record {
  some = λ e. let both = sym o.opens ∙ e in cc;
  no_space = λ b rest e h. space_no_slash b h (let both = sym o.opens ∙ e in cc);
  no_comment = λ body rest e k. o.open_still body rest (let both = sym o.opens ∙ e in cc) k;
  no_front = front_slashes (42 ∷ o.rest) bytes o.opens;
}

no_space_quote : (b : ℕ) → b ≡ 34 → is_space b ≡ true → ⊥
no_space_quote b e h = let quote : is_space 34 ≡ true = sym (ap is_space e) ∙ h in cc

string_at : (token : Token) (x tail rest : List ℕ) → 34 ≡ token_kind token → ((inner text more : List ℕ) → x ≡ inner ++ 34 ∷ more → Quotes inner text → ⊥) → Spells token (34 ∷ tail)
    → x ≡ tail ++ rest → ⊥
string_at (Str text) x tail rest k still s e =
    let tails : tail ≡ s.0 ++ 34 ∷ [] = (let whole : 34 ∷ tail ≡ 34 ∷ (s.0 ++ 34 ∷ []) = s.2 in cc) in
    still s.0 text rest (e ∙ ap (λ w. w ++ rest) tails ∙ append_assoc s.0 (34 ∷ []) rest) s.1
string_at (HeaderName name) x tail rest k still s e = absurd (omega arith)
string_at (Identifier name) x tail rest k still s e = absurd (omega arith)
string_at (Int n) x tail rest k still s e = absurd (omega arith)
string_at (Alias name) x tail rest k still s e = absurd (omega arith)
string_at _ x tail rest k still s e = absurd (omega arith)

pub open_string_stuck : (bytes : List ℕ) → IsOpenString bytes → IsStuck bytes
open_string_stuck bytes o = record {
  some = λ e. let both = sym o.opens ∙ e in cc;
  no_space = λ b rest e h. no_space_quote b (let both = sym o.opens ∙ e in cc) h;
  no_comment = λ body rest e k. let both = sym o.opens ∙ e in cc;
  no_front = λ f.
      let here = subst HasFront o.opens f in
      let head = front_head 34 o.rest here.token here.rest here.front in
      string_at here.token o.rest head.tail here.rest head.kinds o.open_still head.spells head.split;
}

begins_space : (b : ℕ) (bytes rest : List ℕ) → is_space b ≡ true → bytes ≡ b ∷ rest → BeginsToken bytes → ⊥
begins_space b bytes rest h e g = front_spaces b (rest ++ g.more) (bytes ++ g.more) h (ap (λ w. w ++ g.more) e) g.front

pub begins_slash : (bytes rest : List ℕ) → bytes ≡ 47 ∷ rest → BeginsToken bytes → ⊥
begins_slash bytes rest e g = front_slashes (rest ++ g.more) (bytes ++ g.more) (ap (λ w. w ++ g.more) e) g.front

pub open_token_stuck : (bytes : List ℕ) → IsOpenToken bytes → IsStuck bytes
open_token_stuck bytes o = record {
  some = o.some;
  no_space = λ b rest e h. elim o.begins [
    | inl slash ↦ space_no_slash b h (let both = sym slash ∙ e in cc)
    | inr begins ↦ begins_space b bytes rest h e begins
  ];
  no_comment = λ body rest e k. elim o.begins [
    | inl slash ↦ (let both = sym slash ∙ e in cc)
    | inr begins ↦ begins_slash bytes (42 ∷ (body ++ rest)) e begins
  ];
  no_front = o.unclosed;
}

-- no token comes after other blanks than the first ones
stuck_front : (bytes before x : List ℕ) → IsStuck bytes → IsBlanks before → bytes ≡ before ++ x → HasFront x → ⊥
stuck_front bytes before x s nothing e f = s.no_front (subst HasFront (sym e) f)
stuck_front bytes (b ∷ bs) x s (space h r) e f = s.no_space b (bs ++ x) e h
stuck_front bytes before x s (comment body bs k r t) e f =
    s.no_comment body (bs ++ x) (e ∙ ap (λ w. w ++ x) t ∙ ap (λ w. 47 ∷ 42 ∷ w) (append_assoc body bs x)) k

-- what lies between blanks and more blanks is blank
blanks_after : (before whole x : List ℕ) → IsBlanks before → IsBlanks whole → whole ≡ before ++ x → IsBlanks x
blanks_after before whole x nothing k e = subst IsBlanks e k
blanks_after (b ∷ bs) whole x (space h r) nothing e = cc
blanks_after (b ∷ bs) (c ∷ cs) x (space h r) (space k s) e = blanks_after bs cs x r s (let all : c ∷ cs ≡ b ∷ (bs ++ x) = e in cc)
blanks_after (b ∷ bs) whole x (space h r) (comment body cs k s t) e =
    absurd (space_no_slash b h (let all : b ∷ (bs ++ x) ≡ 47 ∷ 42 ∷ (body ++ cs) = sym e ∙ t in cc))
blanks_after before whole x (comment body bs h r t) nothing e = absurd (let all : [] ≡ 47 ∷ 42 ∷ ((body ++ bs) ++ x) = e ∙ ap (λ w. w ++ x) t in cc)
blanks_after before (c ∷ cs) x (comment body bs h r t) (space k s) e =
    absurd (space_no_slash c k (let all : c ∷ cs ≡ 47 ∷ 42 ∷ ((body ++ bs) ++ x) = e ∙ ap (λ w. w ++ x) t in cc))
blanks_after before whole x (comment body bs h r t) (comment body' bs' k s u) e =
    blanks_after bs bs' x r s
    (sym (append-nil bs') ∙ sym (same_close body body' bs bs' x [] h k
    (let all : 47 ∷ 42 ∷ ((body ++ bs) ++ x) ≡ 47 ∷ 42 ∷ ((body' ++ bs') ++ []) =
    sym (ap (λ w. w ++ x) t) ∙ sym e ∙ u ∙ sym (append-nil (47 ∷ 42 ∷ (body' ++ bs'))) in cc)))

-- they aren't only blanks
stuck_blank : (bytes : List ℕ) → IsStuck bytes → IsBlanks bytes → ⊥
stuck_blank bytes s nothing = s.some refl
stuck_blank (b ∷ bs) s (space h r) = s.no_space b bs refl h
stuck_blank bytes s (comment body bs k r t) = s.no_comment body bs t k

-- Where the bytes after blanks are stuck, no token is next.
pub stuck_no_token : (input : List ℕ) → AfterBlanks input IsStuck → AfterBlanks input HasFront → ⊥
stuck_no_token input a f =
    let next = front_after a.before f.before a.bytes f.bytes a.blanks f.blanks (sym a.split ∙ f.split) f.holds in
    stuck_front a.bytes next.before next.bytes a.holds next.blanks next.split next.holds

-- Where they are, there is more than blanks.
pub stuck_no_blanks : (input : List ℕ) → AfterBlanks input IsStuck → IsBlanks input → ⊥
stuck_no_blanks input a b = stuck_blank a.bytes a.holds (blanks_after a.before input a.bytes a.blanks b a.split)

-- No token is in blanks.
pub blanks_no_token : (input : List ℕ) → IsBlanks input → AfterBlanks input HasFront → ⊥
blanks_no_token input b f = (asks_blanks input b).unclosed f
