-- Each arm names sets of the table, and together they name all.
use mathlib.Core.Path.{refl, ap}
use native.Mathlib.Omega.{arith}
use borrow.Author.Rules.{rules}
use mathlib.Core.List.{[], ◌∷◌}
use Rattle.c4d_parts.specs.Bits.{table, looked_up, numbered}
use Rattle.c4d_parts.proofs.Table.{is_key, is_none}
use Rattle.c4d_parts.proofs.look_up.Goals as goal

pub returns-in-1 : goal.returns-in-1
unfolding table looked_up
returns-in-1 c = record { is = ap numbered (is_key 1 (0x0001 ∷ 0x0009 ∷ 0x000B ∷ 0x000D ∷ 0x000F ∷ []) c.args.set refl c.in-1.is); small = omega arith }

pub returns-in-16 : goal.returns-in-16
unfolding table looked_up
returns-in-16 c = record { is = ap numbered (is_key 2 (0x0010 ∷ 0x4010 ∷ []) c.args.set refl c.in-16.is); small = omega arith }

pub returns-in-17 : goal.returns-in-17
unfolding table looked_up
returns-in-17 c = record { is = ap numbered (is_key 2 (0x0011 ∷ 0x4011 ∷ []) c.args.set refl c.in-17.is); small = omega arith }

pub returns-in-32 : goal.returns-in-32
unfolding table looked_up
returns-in-32 c = record { is = ap numbered (is_key 3 (0x0020 ∷ []) c.args.set refl c.in-32.is); small = omega arith }

pub returns-in-64 : goal.returns-in-64
unfolding table looked_up
returns-in-64 c = record { is = ap numbered (is_key 4 (0x0040 ∷ []) c.args.set refl c.in-64.is); small = omega arith }

pub returns-in-512 : goal.returns-in-512
unfolding table looked_up
returns-in-512 c = record { is = ap numbered (is_key 5 (0x0200 ∷ []) c.args.set refl c.in-512.is); small = omega arith }

pub returns-in-1024 : goal.returns-in-1024
unfolding table looked_up
returns-in-1024 c = record { is = ap numbered (is_key 6 (0x0400 ∷ []) c.args.set refl c.in-1024.is); small = omega arith }

pub returns-in-2049 : goal.returns-in-2049
unfolding table looked_up
returns-in-2049 c = record { is = ap numbered (is_key 7 (0x0801 ∷ []) c.args.set refl c.in-2049.is); small = omega arith }

pub returns-in-8192 : goal.returns-in-8192
unfolding table looked_up
returns-in-8192 c = record { is = ap numbered (is_key 8 (0x2000 ∷ []) c.args.set refl c.in-8192.is); small = omega arith }

pub returns-in-0 : goal.returns-in-0
unfolding table looked_up
returns-in-0 c = record { is = ap numbered (is_key 9 (0x0000 ∷ []) c.args.set refl c.in-0.is); small = omega arith }

pub returns-in_default : goal.returns-in_default
unfolding table
returns-in_default c = record {
  is = ap numbered (is_none c.args.set
      ((0x0000 ∷ []) ∷ (0x2000 ∷ []) ∷ (0x0801 ∷ []) ∷ (0x0400 ∷ []) ∷ (0x0200 ∷ []) ∷ (0x0040 ∷ []) ∷ (0x0020 ∷ []) ∷ (0x0011 ∷ 0x4011 ∷ []) ∷ (0x0010 ∷ 0x4010 ∷ []) ∷ (0x0001 ∷ 0x0009 ∷ 0x000B ∷ 0x000D ∷ 0x000F ∷ []) ∷ [])
      (search rules) refl);
  small = tt;
}
