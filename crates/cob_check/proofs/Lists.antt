-- Chunks seen, the nearest first, as the chunks of a layout; and how many of them are listed.
use mathlib.Core.Path.{◌≡◌, refl, ◌∙◌}
use Prim.Native.Nat.{ℕ, suc, ◌+◌, ◌≤◌}
use native.Mathlib.Omega.{arith}
use mathlib.Core.Bool.{Bool, true, false, cond}
use mathlib.Core.List.{List, [], ◌∷◌, ◌++◌}
use lib.ListN.{length, length-append}
use Rattle.shared_words.specs.declared.Refusal.{Refusal}
use Rattle.shared_words.specs.Conditions.{refused, accepted}
use Rattle.shared_flat.specs.Flat.{after_all, records}
use Rattle.cob_rules.specs.Kinds.{listed}
use Rattle.cob_rules.specs.Layout.{Chunk, kind, size, last_at}
use Rattle.cob_rules.specs.Rules.{remember}
use Rattle.cob_rules.specs.Walk.{Verdict, with_chunk}
use Rattle.cob_rules.specs.Gives.{record_of, end_record, one_if, caligari, list}
use Rattle.cob_rules.specs.Theorems.{seen_in}

-- a walk's answer, with the chunks seen before it
abbrev pub with_all : List Chunk → Verdict → Verdict
with_all [] a = a
with_all (c ∷ seen) a = with_all seen (with_chunk c a)

-- the chunks seen in file order, and others behind them
abbrev pub onto : List Chunk → List Chunk → List Chunk
onto [] cs = cs
onto (c ∷ seen) cs = onto seen (c ∷ cs)

pub all-refused : (seen : List Chunk) (q : Refusal) → with_all seen (refused q) ≡ refused q
all-refused [] q = refl
all-refused (c ∷ seen) q = all-refused seen q

pub all-accepted : (seen cs : List Chunk) (last : Chunk) → with_all seen (accepted record { chunks = cs; last = last }) ≡ accepted record { chunks = onto seen cs; last = last }
all-accepted [] cs last = refl
all-accepted (c ∷ seen) cs last = all-accepted seen (c ∷ cs) last

after-onto : (seen cs : List Chunk) → after_all remember [] (onto seen cs) ≡ after_all remember seen cs
after-onto [] cs = refl
after-onto (c ∷ seen) cs = after-onto seen (c ∷ cs)

pub seen-onto : (seen : List Chunk) (last : Chunk) → seen_in record { chunks = onto seen []; last = last } ≡ seen
seen-onto seen last = after-onto seen []

length-onto : (seen cs : List Chunk) → length (onto seen cs) ≡ length seen + length cs
length-onto [] cs = omega arith
length-onto (c ∷ seen) cs = length-onto seen (c ∷ cs) ∙ omega arith

pub length_seen : (seen : List Chunk) → length (onto seen []) ≡ length seen
length_seen seen = length-onto seen [] ∙ omega arith

-- ---- how many are listed

abbrev pub one_for : Chunk → ℕ
one_for c = cond (listed (kind c)) 1 0

abbrev pub count_listed : List Chunk → ℕ
count_listed [] = 0
count_listed (c ∷ cs) = one_for c + count_listed cs

pub few-listed : (cs : List Chunk) → count_listed cs ≤ length cs
few-listed [] = omega arith
few-listed (c ∷ cs) = go (listed (kind c)) (few-listed cs)
  where
    go : (b : Bool) → count_listed cs ≤ length cs → cond b 1 0 + count_listed cs ≤ suc (length cs)
    go true l = omega arith
    go false l = omega arith

count-onto : (seen cs : List Chunk) → count_listed (onto seen cs) ≡ count_listed seen + count_listed cs
count-onto [] cs = omega arith
count-onto (c ∷ seen) cs = count-onto seen (c ∷ cs) ∙ omega arith

records-counted : (cs seen : List Chunk) (o : ℕ) → length (records caligari seen o cs) ≡ count_listed cs
records-counted [] seen o = refl
records-counted (c ∷ cs) seen o = go (listed (kind c)) (records-counted cs (c ∷ seen) (o + size c))
  where
    go : (b : Bool) → length (records caligari (c ∷ seen) (o + size c) cs) ≡ count_listed cs →
        length (one_if b (record_of seen o c) ++ records caligari (c ∷ seen) (o + size c) cs) ≡ cond b 1 0 + count_listed cs
    go true e = omega arith
    go false e = omega arith

pub list_counted : (seen : List Chunk) (last : Chunk) → length (list record { chunks = onto seen []; last = last }) ≡ suc (count_listed seen)
list_counted seen last =
    omega (
      arith,
      length-append (records caligari [] 32 (onto seen [])) (end_record (last_at record { chunks = onto seen []; last = last }) last ∷ []),
      records-counted (onto seen []) [] 32,
      count-onto seen [],
    )
