-- One store.
use borrow.Author.Rules.{rules}
use Rattle.shared_numbers.proofs.Put.{put_byte}
use Rattle.shared_numbers.proofs.put_byte.Goals as goal

pub returns : goal.returns
returns c = put_byte _ _ _ (search rules)
