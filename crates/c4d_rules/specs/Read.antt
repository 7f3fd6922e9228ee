-- Reading things one after another, whatever they are: a walk in file order over bytes, which answers the first fault met or
-- all things. Q-12's file, its MAT4 and its OBJ5 are read in this one way.
use Rattle.std.specs.Prelude.{ℕ, zero, suc, ◌+◌, List, [], ◌∷◌, leb, length, take, drop}
use Rattle.shared_words.specs.declared.Refusal.TheVariants.{TooLong, Overrun}
use Rattle.shared_words.specs.Conditions.{Condition, must, broken, Answer, refused, accepted, unless}
use Rattle.c4d_rules.specs.Blocks.{Block, Header, width, told, size}

-- ---- the walk

-- how things A are read, where a state S is what is known before each
pub record Grammar (S A : Type 0) : Type 0 where
  pub header : Header
  -- a header and as many bytes behind it as it tells, at an offset: the fault, or what it is
  pub look : S → ℕ → Block → Answer A
  pub after : S → A → S
  -- what must hold at the end
  pub close : S → List Condition

-- what s begins with
abbrev pub block_of : Header → List ℕ → List ℕ → Block
block_of h head left = record { head = head; body = take (told h head) left }

unfoldable pub block_at : Header → List ℕ → Block
block_at h s = block_of h (take (width h) s) (drop (width h) s)

-- "5 when it passes its parent's end": the block b at o, where n bytes are left
abbrev pub block_conditions : Header → ℕ → ℕ → Block → List Condition
block_conditions h o n b = must (leb (width h) n) (Overrun o) ∷ must (leb (width h + told h b.head) n) (Overrun o) ∷ []

abbrev pub with_more : {A : Type 0} → A → Answer (List A) → Answer (List A)
with_more a (refused r) = refused r
with_more a (accepted rest) = accepted (a ∷ rest)

module _ {S A : Type 0} (G : Grammar S A) where
  -- after a look, where `go` walks on from o
  abbrev pub taken : (S → ℕ → List ℕ → Answer (List A)) → S → ℕ → List ℕ → Answer A → Answer (List A)
  taken go s o left (refused r) = refused r
  taken go s o left (accepted a) = with_more a (go (G.after s a) o left)

  abbrev pub step : (S → ℕ → List ℕ → Answer (List A)) → S → ℕ → List ℕ → Block → Answer (List A)
  step go s o bs b =
      unless (broken (block_conditions G.header o (length bs) b)) (taken go s (o + size b) (drop (size b) bs) (G.look s o b))

  -- The first number bounds the count of steps. `walk` gives one that is always enough, so that the first line is never read.
  abbrev pub run : ℕ → S → ℕ → List ℕ → Answer (List A)
  run zero s o bs = refused TooLong
  run (suc k) s o [] = unless (broken (G.close s)) (accepted [])
  run (suc k) s o (b ∷ bs) = step (run k) s o (b ∷ bs) (block_at G.header (b ∷ bs))

  -- all that is left from offset o on
  unfoldable pub walk : S → ℕ → List ℕ → Answer (List A)
  walk s o bs = run (suc (length bs)) s o bs
