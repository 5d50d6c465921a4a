use Rattle.std.proofs.Common.{◌≡◌, ◌-◌, ◌++◌, ◌≤◌, length, drop}
use Rattle.definitions.specs.Numerals.{digits_of}
use Rattle.text_ports.proofs.prepended_text.PrependedText.put_padded.Given as goal

-- the digits that are left, and then what stands already, are the digits of the value and what stood
abbrev pub invariant-loop-left : goal.invariant-loop-left
invariant-loop-left g l = record {
  behind : l.begin ≤ l.left;
  within : l.left ≤ g.row.MOST;
  room : length l.self-inside.bytes ≡ g.row.MOST;
  split : digits_of 10 (l.left - l.begin) l.rest ++ drop l.left l.self-inside.bytes ≡ digits_of 10 l.digits l.value ++ l.fn.self;
}

abbrev pub decreases-loop-left : goal.decreases-loop-left
decreases-loop-left g l = l.left - l.begin
