-- The places of a slip are small, in the reader as in the writer: at most 1,000 entries of at most 262 bytes stand behind its
-- first 7.
use mathlib.Core.Path.{◌≡◌}
use Prim.Native.Nat.{ℕ, zero, suc, ◌+◌, ◌*◌, ◌≤◌}
use native.Mathlib.Omega.{arith}
use mathlib.Core.Bool.{true, not}
use mathlib.Core.List.{List, [], ◌∷◌}
use lib.Dec.{leb}
use lib.ListN.{length, drop, length-append}
use borrow.Author.Tests.{leb-true, ltb-true}
use borrow.Author.Rules.{rules}
use Rattle.shared_words.specs.declared.Refusal.TheVariants.{Slip, NoRoom}
use Rattle.shared_words.specs.Bytes.{be_at}
use Rattle.shared_words.specs.Conditions.{Condition, must, broken, refused, accepted}
use Rattle.shared_words.specs.Lists.{All}
use Rattle.shared_words.proofs.Bools.{and_parts}
use Rattle.slip_rules.specs.declared.Numbers.{Numbers}
use Rattle.slip_rules.specs.Slip.{Entry, behind_name, entry_bytes, entry_size, all_bytes, bytes}
use Rattle.slip_rules.specs.Rules.{is_named, remember, most_entries}
use Rattle.slip_rules.specs.Conditions.{label_conditions}
use Rattle.slip_rules.specs.Walk.{head_conditions, Entries, with_entry, entry_at, walk_conditions, behind, go_on, walk, labelled, verdict}
use Rattle.slip_rules.specs.Calls.{entry_from, entries_from, Given, row_conditions, one_on, write_conditions}
use Rattle.slip_rules.proofs.Given.{length-entries}
use Rattle.claim_numbers.proofs.Conditions.{Ends, Asked, asked, AnswerTo, unless_to, unless-met}

-- ---- entries

abbrev Short : Entry → Type 0
Short e = entry_size e ≤ 262

named-short : (e : Entry) → is_named e ≡ true → Short e
named-short e h = omega (arith, leb-true (length e.name) 255 (and_parts (leb 1 (length e.name)) (leb (length e.name) 255) h).1)

-- at most n of them
pub record Few (n : ℕ) (es : List Entry) : Type 0 where
  pub count : length es ≤ n
  pub short : All Short es

one_more : (n : ℕ) (e : Entry) (es : List Entry) → Short e → Few n es → Few (suc n) (e ∷ es)
one_more n e es h f = record { count = omega (arith, f.count); short = (h, f.short) }

-- the bytes of the longest
abbrev pub most : ℕ
most = 7 + 262 * most_entries

all_short : (es : List Entry) → All Short es → length (all_bytes es) ≤ 262 * length es
all_short [] h = omega arith
all_short (e ∷ es) h = omega (arith, h.0, all_short es h.1, length-append (entry_bytes e) (all_bytes es), length-append e.name (behind_name e))

bytes-few : (es : List Entry) → Few most_entries es → length (bytes es) ≤ most
bytes-few es f = omega (arith, f.count, all_short es f.short)

-- ---- the labels, with offsets or with numbers for places

module _ (next : ℕ → Entry → ℕ) (near : (o : ℕ) (e : Entry) → Short e → next o e ≤ o + 262) (m : ℕ) (P : Type 0) (later : List Condition) where
  labels_asked : (o : ℕ) (es : List Entry) → All Short es → o + 262 * length es ≤ m → Asked m P later → Asked m P (label_conditions next o es later)
  labels_asked o [] h l k = k
  labels_asked o (e ∷ es) h l k = (λ _. omega arith, λ _. labels_asked (next o e) es h.1 (omega (arith, near o e h.0)) k)

-- ---- the reader

with_to : (m n : ℕ) (e : Entry) (a : Entries) → Short e → AnswerTo m (Few n) a → AnswerTo m (Few (suc n)) (with_entry e a)
with_to m n e (refused r) h k = k
with_to m n e (accepted es) h k = one_more n e es h k

walk_to : (m n : ℕ) (seen : List (List ℕ)) (o : ℕ) (s : List ℕ) → o + 262 * n ≤ m → AnswerTo m (Few n) (walk n seen o s)
walk_to m zero seen o [] l = record { count = omega arith; short = tt }
walk_to m zero seen o (b ∷ s) l = omega arith
walk_to m (suc n) seen o s l =
    let e = entry_at s in
    let left = drop (entry_size e) s in
    unless-met (Few (suc n)) m (walk_conditions seen o s e) (go_on (walk n) seen o s e) (search rules)
    (λ t.
    let h = named-short e t.1.0 in
    with_to m n e (walk n (remember seen e) (behind o e) left) h (walk_to m n (remember seen e) (behind o e) left (omega arith)))

labelled_to : (n : ℕ) → n ≤ most_entries → (a : Entries) → AnswerTo most (Few n) a → AnswerTo most (Few most_entries) (labelled a)
labelled_to n l (refused r) h = h
labelled_to n l (accepted es) h =
    let f : Few most_entries es = record { count = omega (arith, h.count); short = h.short } in
    unless_to (Few most_entries) most (label_conditions behind 7 es []) (accepted es)
    (labels_asked behind (λ o e k. omega arith) most (Few most_entries es) [] 7 es h.short (omega (arith, f.count)) f)

pub verdict_to : (s : List ℕ) → AnswerTo most (Few most_entries) (verdict s)
unfolding verdict
verdict_to s =
    let n = be_at 5 2 s in
    let left = drop 7 s in
    unless-met (Few most_entries) most (head_conditions s) (labelled (walk n [] 7 left)) (search rules)
    (λ t.
    let l = leb-true n most_entries t.1.1.1.0 in
    labelled_to n l (walk n [] 7 left) (walk_to most n [] 7 left (omega arith)))

-- ---- the writer

-- k more may follow the i before
module _ (names : List ℕ) (P : Type 0) (later : List Condition) where
  rows-asked : (k : ℕ) (seen : List (List ℕ)) (i : ℕ) (ns : List Numbers) → i + k ≡ most_entries → (Few k (entries_from names ns) → Asked most P later) → Asked most P (row_conditions names seen i ns later)
  rows-asked k seen i [] q h = h record { count = omega arith; short = tt }
  rows-asked zero seen i (n ∷ ns) q h = (λ _. omega arith, λ t. absurd (omega (arith, ltb-true i most_entries t)))
  rows-asked (suc k) seen i (n ∷ ns) q h =
      let e = entry_from names n in
      let more = rows-asked k (remember seen e) (suc i) ns (omega arith) in
      (λ _. omega arith, λ _. (λ _. omega arith, λ _. (λ _. omega arith, λ t. (λ _. omega arith, λ _. (λ _. omega arith, λ _. more (λ f. h (one_more k e (entries_from names ns) (named-short e t) f)))))))

pub written_to : (names : List ℕ) (g : Given) (room : ℕ) → Ends most (length (bytes (entries_from names g.rows)) ≤ most) (broken (write_conditions names g room))
written_to names g room = asked Fits most (write_conditions names g room) (rows-asked names Fits last most_entries [] 0 g.rows (omega arith) after-rows)
  where
    es : List Entry
    es = entries_from names g.rows

    Fits : Type 0
    Fits = length (bytes es) ≤ most

    room_last : List Condition
    room_last = must (leb (length (bytes es)) room) (NoRoom (length (bytes es))) ∷ []

    last : List Condition
    last = must (not g.part) (Slip (length g.rows)) ∷ label_conditions one_on 0 es room_last

    after-rows : Few most_entries es → Asked most Fits last
    after-rows f =
        let n = f.count in
        let b = bytes-few es f in
        (λ _. omega (arith, length-entries names g.rows), λ _. labels_asked one_on (λ i e k. omega arith) most Fits room_last 0 es f.short (omega arith) (λ _. b, λ _. b))
