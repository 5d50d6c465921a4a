-- Lines that are no commands, and which of them a client of HTTP sends (ours).
use Rattle.std.specs.{Prelude.{ℕ, Bool, true, false, ◌&&◌, not, List, Result, Ok, Err, codes, length, nat_le}, Char.is_ascii_uppercase, List.list_all}
use Rattle.definitions.specs.Fields.{unbroken_front}
use Rattle.session_commands.specs.{declared.commands.Command.Command, declared.refusals.Refusal.Refusal, declared.refusals.Refusal.TheVariants.{BadCommand, UnknownCommand}, Commands.command_of, Sought.has_text}

-- whether a line was read as a command; one whose name or card is refused is a command, too
abbrev pub is_read : Result Command Refusal → Bool
is_read (Err BadCommand) = false
is_read (Err (UnknownCommand word)) = false
is_read _ = true

-- whether a line is a command
abbrev pub is_command : List ℕ → Bool
is_command line = is_read (command_of line)

-- whether a word may be a method of HTTP: capital letters, one at least
abbrev pub is_method : List ℕ → Bool
is_method word = nat_le 1 (length word) && list_all is_ascii_uppercase word

-- whether a line is a request of HTTP: no command, with a method as its first word, and the word HTTP with a stroke somewhere behind a blank
abbrev pub is_request_of_http : List ℕ → Bool
is_request_of_http line = not (is_command line) && is_method (unbroken_front line) && has_text (codes " HTTP/") line
