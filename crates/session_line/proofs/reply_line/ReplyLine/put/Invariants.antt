use Rattle.std.proofs.Common.{◌≡◌, ◌+◌, ◌++◌, take, length}
use Rattle.session_line.proofs.reply_line.ReplyLine.put.Given as goal

-- the bytes so far stand behind what stood there
abbrev pub invariant-loop-byte : goal.invariant-loop-byte
invariant-loop-byte l = (l.self ≡ l.fn.self ++ take l.byte-index l.text) × (length l.self ≡ length l.fn.self + l.byte-index)
