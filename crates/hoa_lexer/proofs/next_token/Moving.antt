-- Reading some bytes and then more, put together.
use Rattle.std.proofs.Common.{◌≡◌, ℕ, List, Option, Result, Ok, Err, refl, ◌∙◌, subst, sym, arith}
use Rattle.std.specs.Result.{IsErrAnd}
use Rattle.aut_io.specs.Seen.{Seen}
use Rattle.hoa_lexer.specs.Moves.{MovesLexer, Stop, AtEnd, AtFault, AtMost, Elsewhere, CountsReads}
use Rattle.hoa_lexer.specs.declared.lexer.Lexer.{Lexer}
use Rattle.hoa_lexer.specs.Reading.{Between}
use Rattle.hoa_lexer.specs.declared.token.LexFault.{LexFault}
use Rattle.hoa_lexer.proofs.next_token.Between.{between_same, between_then}

counts_then : (stop : Stop) (a b c : ℕ) → b ≡ a → CountsReads stop b c → CountsReads stop a c
counts_then AtFault a b c e k = omega (arith, e, k)
counts_then AtEnd a b c e k = k ∙ e
counts_then AtMost a b c e k = k ∙ e
counts_then Elsewhere a b c e k = k ∙ e

pub moves_then : (stop : Stop) (a b c : Lexer) (s m t : Seen) → MovesLexer Elsewhere a b s m → MovesLexer stop b c m t → MovesLexer stop a c s t
moves_then stop a b c s m t one two = record {
  most = two.most ∙ one.most;
  taken = between_then s.left m.left t.left _ _ _ (λ x y z h k. omega (arith, h, k)) one.taken two.taken;
  since = omega (arith, one.since, two.since);
  later = omega (arith, one.later, two.later);
  used = omega (arith, one.used, two.used);
  within = two.within;
  reads = counts_then stop _ _ _ one.reads two.reads;
  reads_later = omega (arith, one.reads_later, two.reads_later);
  openings = two.openings ∙ one.openings;
  opens = two.opens ∙ one.opens;
  texts = two.texts ∙ one.texts;
}

-- nothing was read
pub moves_nowhere : (a : Lexer) (s : Seen) → MovesLexer Elsewhere a a s s
moves_nowhere a s = record {
  most = refl;
  taken = between_same s.left _ (λ x. refl);
  since = omega arith;
  later = omega arith;
  used = omega arith;
  within = tt;
  reads = refl;
  reads_later = omega arith;
  openings = refl;
  opens = refl;
  texts = refl;
}

-- an error that `?` returns
pub handed_on : {A : Type 0} (P : Result A LexFault → List ℕ → List ℕ → Type 0) (a b : Option (List ℕ)) (r : Result A LexFault) (f : LexFault) → IsErrAnd r (λ y. y ≡ f)
    → Between a b (P (Err f)) → Between a b (P r)
handed_on P a b (Ok x) f h one = absurd h
handed_on P a b (Err y) f h one = subst (λ (e : LexFault). Between a b (P (Err e))) (sym h) one
