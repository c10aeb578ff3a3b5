use Rattle.word_syntax.proofs.letters.is_within.Goals as goal

pub returns : goal.returns
returns c = (
  λ h name held. (c.names.ensures.members name).1 (c.holds_only.ensures.0 h name held),
  λ within. c.holds_only.ensures.1 (λ name held. (c.names.ensures.members name).0 (within name held)),
)
