-- A store in which guards are made that aren't to stay, as contracts see it.
use Rattle.label_guards.specs.Store.{Store}

-- the store as it was and will be again, and the store as it is
pub record Drafts : Type 0 where
  pub kept : Store
  pub now : Store
