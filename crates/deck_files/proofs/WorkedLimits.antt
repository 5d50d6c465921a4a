-- Limits of the size of files, computed from the definitions.
use Rattle.std.{proofs.Common.{◌≡◌, Some, None, refl}, specs.Prelude.codes}
use Rattle.deck_files.specs.SizeLimits.{limit_in, number_at}

limit_of_a_shell : limit_in (codes "Limit\nMax cpu time\nMax file size             1024                 unlimited            bytes     \n") ≡ Some 1024
limit_of_a_shell = refl

no_limit : limit_in (codes "Limit\nMax cpu time\nMax file size             unlimited            unlimited            bytes     \n") ≡ None
no_limit = refl

another_line : limit_in (codes "Limit\nMax cpu time\nMax data size             1024                 unlimited            bytes     \n") ≡ None
another_line = refl

no_table : limit_in (codes "") ≡ None
no_table = refl

no_byte_at_all : number_at (codes "0 ") ≡ Some 0
no_byte_at_all = refl
