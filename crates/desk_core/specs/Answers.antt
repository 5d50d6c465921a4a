-- An answer of a desk: the reply, and the desk after it (ours).
use Rattle.std.specs.Prelude.{ℕ, ◌+◌, nat_lt, Option, Some, None}
use Rattle.desk_core.specs.{Joins.Causes.when, Desks.{Desk, greatest_number}, Joins.Calls.{Reply, Refused, Refusal, VersionsSpent}}

-- the reply, and the desk after it
pub record Answer : Type 0 where
  pub reply : Reply
  pub desk : Desk

-- a reply, and the desk after it
abbrev pub answers : Reply → Desk → Answer
answers reply desk = record { reply = reply; desk = desk }

-- a refusal with the desk as it is, where a cause is present; else what is accepted
abbrev pub unless : Option Refusal → Desk → Answer → Answer
unless None desk accepted = accepted
unless (Some refusal) desk accepted = answers (Refused refusal) desk

-- what speaks against one version more, or one lease more: the number after this one is too great
abbrev pub against_next : ℕ → Option Refusal
against_next number = when (nat_lt greatest_number (number + 1)) VersionsSpent
