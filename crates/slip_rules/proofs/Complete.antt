-- The walk accepts the bytes of all entries that meet the rules, and gives those entries back.
-- By the entries: each rule answers one condition.
use mathlib.Core.Path.{◌≡◌, refl, ◌∙◌}
use Prim.Native.Nat.{ℕ, ◌+◌, ◌^◌, ◌<◌}
use native.Mathlib.Omega.{arith}
use mathlib.Core.List.{List, [], ◌∷◌, ◌++◌, append_assoc}
use mathlib.Core.Option.{none}
use lib.ListN.{length, drop, length-append}
use lib.Seq.{take_at, drop_at, get_or-append-add}
use borrow.Author.Tests.{le-leb}
use Rattle.shared_words.specs.Conditions.{broken, accepted}
use Rattle.shared_words.proofs.BigEndian.{value-be}
use Rattle.shared_words.proofs.Conditions.{unbroken}
use Rattle.slip_rules.specs.Slip.{Entry, behind_name, entry_bytes, entry_size, all_bytes}
use Rattle.slip_rules.specs.Rules.{remember, Lawful, AllLawful}
use Rattle.slip_rules.specs.Walk.{Entries, entry_of, entry_at, walk_conditions, go_on, step, walk}

module _ (e : Entry) (more : List ℕ) where
  -- behind the name length
  of-found : e.file < 256 ^ 4 → entry_of (length e.name) (e.name ++ (behind_name e ++ more)) ≡ e
  of-found f =
      rw (
        take_at e.name (behind_name e ++ more) (length e.name) refl,
        drop_at e.name (behind_name e ++ more) (length e.name) refl,
        get_or-append-add e.name (behind_name e ++ more) 4 0,
        get_or-append-add e.name (behind_name e ++ more) 5 0,
        value-be 4 e.file f,
      )

  entry_found : e.file < 256 ^ 4 → entry_at (entry_bytes e ++ more) ≡ e
  unfolding entry_at
  entry_found f = rw (append_assoc e.name (behind_name e) more) (of-found f)

  length-here : length (entry_bytes e ++ more) ≡ entry_size e + length more
  length-here = omega (arith, length-append (entry_bytes e) more, length-append e.name (behind_name e))

  dropped : drop (entry_size e) (entry_bytes e ++ more) ≡ more
  dropped = drop_at (entry_bytes e) more (entry_size e) (omega (arith, length-append e.name (behind_name e)))

  step-good : (go : List (List ℕ) → ℕ → List ℕ → Entries) (seen : List (List ℕ)) (o : ℕ) → Lawful seen e →
      step go seen o (entry_bytes e ++ more) (entry_at (entry_bytes e ++ more)) ≡ go_on go seen o (entry_bytes e ++ more) e
  step-good go seen o h =
      let q : broken (walk_conditions seen o (entry_bytes e ++ more) e) ≡ none =
      unbroken _ (le-leb (entry_size e) (length (entry_bytes e ++ more)) (omega (arith, length-here)), (h.is-named, (h.sums_proper_lem, (h.not_twice_lem, tt)))) in
      rw (entry_found h.file-fits, q)

pub walk_complete : (es : List Entry) (seen : List (List ℕ)) (o : ℕ) → AllLawful seen es → walk (length es) seen o (all_bytes es) ≡ accepted es
walk_complete [] seen o h = refl
walk_complete (e ∷ es) seen o h =
    step-good e (all_bytes es) (walk (length es)) seen o h.0 ∙
    rw (dropped e (all_bytes es), walk_complete es (remember seen e) (o + entry_size e) h.1)
