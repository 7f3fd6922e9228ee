-- The name of a mesh's object as bytes: what stands in the file where the call says.
use Rattle.studio_rules.specs.declared.Span.{Span}
use Rattle.std.specs.Prelude.{ℕ, List, take, drop, Result, Ok, Err}
use Rattle.shared_words.specs.declared.Refusal.{Refusal}
use Rattle.studio_rules.specs.Calls.{name_call}

pub data Letters : Type 0 where
  no : Refusal → Letters
  letters : List ℕ → Letters

abbrev pub letters_at : List ℕ → Result Span Refusal → Letters
letters_at s (Ok span) = letters (take span.size (drop span.offset s))
letters_at s (Err r) = no r

abbrev pub name_in : List ℕ → ℕ → Letters
name_in s mesh = letters_at s (name_call s mesh)
