-- The grammar of the program's words, over clap's model of simple commands: what a parse makes of the words
-- (`subcommand_of`), and the errors that it finds in them (`fault_of`).
use Rattle.std.specs.Prelude.{◌≡◌, ◌≢◌, ◌⊎◌, ◌&&◌, ◌||◌, ◌==◌, ◌≤◌, nat_le, not, length, slice_index, ℕ, Bool, true, Any, List, [], ◌∷◌, Option, None, Some, Result, Ok, Err, codes, if◌then◌else◌, option_map, option_and_then, unwrap_or}
use Rattle.std.specs.List.{before_first, after_first}
use Rattle.std.specs.Str.{bytes_eq}
use Rattle.std.specs.Str.Parse.{digits_value, without_leading_plus}
use Rattle.clap.specs.Walk.{Row, Rule, Text, all_of, first_of, one_of}
use Rattle.clap.specs.Simple.{App, new_app, new_rule, on_top, subcommand_of, with_rule, with_subcommand}
use Rattle.clap.specs.ValueTests.{is_unsigned_in}
use Rattle.clap.specs.Kinds.{Kinds}
use Rattle.clap.specs.Faults.{fault_of}
use Rattle.clap.specs.declared.builder.action.ArgAction.TheVariants.{Append}
use Rattle.clap.specs.declared.builder.value_parser.ValueParser.TheVariants as parser
use Rattle.command_words.specs.Arguments.{IsArgument, arguments_in}
use Rattle.command_words.specs.declared.argument.Argument.{Argument}
use Rattle.command_words.specs.declared.command.Call.{Call}
use Rattle.command_words.specs.declared.command.Command.{Command}
use Rattle.command_words.specs.declared.command.Command.TheVariants as command
use Rattle.command_words.specs.declared.command.Drill.{Drill}
use Rattle.command_words.specs.declared.command.Options.{Options}
use Rattle.command_words.specs.declared.peek.Peek.{Peek}
use Rattle.command_words.specs.declared.command.Run.{Run}
use Rattle.command_words.specs.declared.command.WordsStop.{WordsStop}
use Rattle.command_words.specs.declared.command.WordsStop.TheVariants.{Outside, NoMemory}

-- ---- what may be said

-- `--name N`, once at most, for a number from `least` to `most`
abbrev pub number_option : Text → Text → ℕ → ℕ → Rule
number_option name default least most = record (new_rule name) {
  long = Some name;
  defaults = default ∷ [];
  parser = Some (parser.Unsigned least most);
}

abbrev pub workers : Rule
workers = number_option (codes "workers") (codes "4") 0 64

abbrev pub batch : Rule
batch = number_option (codes "batch") (codes "4096") 1 1048576

abbrev pub steps : Rule
steps = number_option (codes "steps") (codes "100000000") 0 1000000000000

-- `--peek A:N`, once at most
abbrev pub peek : Rule
peek = record (new_rule (codes "peek")) { long = Some (codes "peek") }

-- EXPORT: one word
abbrev pub export : Rule
export = record (new_rule (codes "export")) { required = true }

-- ARGS: any number of words
abbrev pub arguments : Rule
arguments = record (new_rule (codes "arguments")) { action = Some Append }

-- N: one number
abbrev pub count : Rule
count = record (new_rule (codes "n")) { required = true; parser = Some (parser.Unsigned 1 50000) }

-- the options of each command on a module
abbrev pub with_options : App → App
with_options a = with_rule (with_rule a workers) batch

-- the words of a call and its options
abbrev pub with_words : App → App
with_words a = with_rule (with_rule (with_rule (with_rule a export) arguments) steps) peek

abbrev pub check : App
check = with_options (new_app (codes "check"))

abbrev pub compile : App
compile = with_options (new_app (codes "compile"))

abbrev pub many : App
many = with_options (new_app (codes "many"))

abbrev pub run : App
run = with_options (with_words (new_app (codes "run")))

abbrev pub exec : App
exec = with_words (new_app (codes "exec"))

abbrev pub drill : App
drill = with_rule (with_options (with_rule (new_app (codes "drill")) count)) steps

-- the commands on a module that call nothing, and those that call a function
abbrev pub with_modules : App → App
with_modules a = with_subcommand (with_subcommand (with_subcommand a check.top) compile.top) many.top

abbrev pub with_calls : App → App
with_calls a = with_subcommand (with_subcommand (with_subcommand a run.top) exec.top) drill.top

-- the program: a subcommand is wanted, and no word asks for help
abbrev pub program : App
program = with_calls (with_modules (on_top (λ s. record s {
  disable_help_flag = true;
  disable_help_subcommand = true;
  subcommand_required = true;
}) (new_app (codes "wstream"))))

-- ---- what is read of it

abbrev pub in_range : ℕ → ℕ → ℕ → Option ℕ
in_range least most n = if nat_le least n && nat_le n most then Some n else None

-- the number that a text encodes, where it is in the range
abbrev pub number_in : ℕ → ℕ → Text → Option ℕ
number_in least most text = if is_unsigned_in least most text then Some (digits_value 10 (without_leading_plus text)) else None

abbrev pub options_of : Option ℕ → Option ℕ → Option Options
options_of (Some w) (Some b) = Some (record { workers = w; batch = b })
options_of _ _ = None

-- the numbers of what was found for the options
abbrev pub options_in : List Row → Option Options
options_in rows = options_of (option_and_then (number_in 0 64) (one_of (codes "workers") rows))
    (option_and_then (number_in 1 1048576) (one_of (codes "batch") rows))

-- the words that were found for ARGS
abbrev pub found_words : List Row → List Text
found_words rows = unwrap_or (all_of (codes "arguments") rows) []

-- the text begins with no plus (43), and has at most 10 bytes
abbrev pub is_short : Text → Bool
is_short text = not (slice_index text 0 == 43) && nat_le (length text) 10

-- the number in the range that from 1 to 10 decimal digits write
abbrev pub short_number : (least most : ℕ) → Text → Option ℕ
short_number least most text = if is_short text then number_in least most text else None

abbrev pub peek_of : (address count : Option ℕ) → Option Peek
peek_of (Some address) (Some count) = Some (record { address = address; count = count })
peek_of _ _ = None

-- the numbers before the first colon (58) and after it
abbrev pub peek_in : Text → Option Peek
peek_in word = peek_of (short_number 0 4294967295 (before_first (λ c. c == 58) word)) (short_number 1 4096 (after_first (λ c. c == 58) word))

-- what the word of `--peek` says, where there is one
abbrev pub peek_said : Option Text → Option (Option Peek)
peek_said None = Some None
peek_said (Some word) = option_map Some (peek_in word)

abbrev pub found_peek : List Row → Option Text
found_peek rows = first_of (codes "peek") rows

abbrev pub call_of : Option Text → Option (List Argument) → Option ℕ → Option (Option Peek) → Option Call
call_of (Some e) (Some l) (Some n) (Some p) = Some (record { export = e; arguments = l; steps = n; peek = p })
call_of _ _ _ _ = None

abbrev pub call_in : List Row → Option Call
call_in rows = call_of (first_of (codes "export") rows) (arguments_in (found_words rows)) (option_and_then (number_in 0 1000000000000) (one_of (codes "steps") rows)) (peek_said (found_peek rows))

abbrev pub run_of : Option Options → Option Call → Option Run
run_of (Some o) (Some c) = Some (record { options = o; call = c })
run_of _ _ = None

abbrev pub run_in : List Row → Option Run
run_in rows = run_of (options_in rows) (call_in rows)

abbrev pub drill_of : Option Options → Option ℕ → Option ℕ → Option Drill
drill_of (Some o) (Some n) (Some s) = Some (record { options = o; count = n; steps = s })
drill_of _ _ _ = None

abbrev pub drill_in : List Row → Option Drill
drill_in rows = drill_of (options_in rows) (option_and_then (number_in 1 50000) (one_of (codes "n") rows))
    (option_and_then (number_in 0 1000000000000) (one_of (codes "steps") rows))

abbrev pub command_named : Text × List Row → Option Command
command_named p =
    if bytes_eq p.0 (codes "check") then option_map command.Check (options_in p.1)
    else if bytes_eq p.0 (codes "compile") then option_map command.Compile (options_in p.1)
    else if bytes_eq p.0 (codes "many") then option_map command.Many (options_in p.1)
    else if bytes_eq p.0 (codes "run") then option_map command.Run (run_in p.1)
    else if bytes_eq p.0 (codes "exec") then option_map command.Exec (call_in p.1)
    else if bytes_eq p.0 (codes "drill") then option_map command.Drill (drill_in p.1)
    else None

-- the command that clap's model reads, where it finds no error
abbrev pub command_without : Kinds → Option (Text × List Row) → Option Command
command_without [] named = option_and_then command_named named
command_without (fault ∷ faults) named = None

abbrev pub command_in : List Text → Option Command
command_in words = command_without (fault_of program words) (subcommand_of program words)

-- ---- what the words are

abbrev pub IsCommand : List Text → Command → Type 0
IsCommand words c = command_in words ≡ Some c

abbrev pub AreInRange : Options → Type 0
AreInRange o = (o.workers ≤ 64) × (1 ≤ o.batch) × (o.batch ≤ 1048576)

abbrev pub IsPeekInRange : Option Peek → Type 0
IsPeekInRange None = Unit {0}
IsPeekInRange (Some p) = (p.address ≤ 4294967295) × (1 ≤ p.count) × (p.count ≤ 4096)

abbrev pub IsCallInRange : Call → Type 0
IsCallInRange c = (c.steps ≤ 1000000000000) × IsPeekInRange c.peek

-- the numbers of the command are in their ranges
abbrev pub IsInRange : Command → Type 0
IsInRange (command.Check o) = AreInRange o
IsInRange (command.Compile o) = AreInRange o
IsInRange (command.Many o) = AreInRange o
IsInRange (command.Run r) = AreInRange r.options × IsCallInRange r.call
IsInRange (command.Exec c) = IsCallInRange c
IsInRange (command.Drill d) = AreInRange d.options × (1 ≤ d.count) × (d.count ≤ 50000) × (d.steps ≤ 1000000000000)

-- the words of ARGS, where the subcommand makes a call
abbrev pub call_words : Option (Text × List Row) → List Text
call_words None = []
call_words (Some p) = if bytes_eq p.0 (codes "run") || bytes_eq p.0 (codes "exec") then found_words p.1 else []

-- the word of `--peek`, where the subcommand makes a call
abbrev pub peek_word : Option (Text × List Row) → Option Text
peek_word None = None
peek_word (Some p) = if bytes_eq p.0 (codes "run") || bytes_eq p.0 (codes "exec") then found_peek p.1 else None

abbrev pub IsNoArgument : Text → Type 0
IsNoArgument word = (a : Argument) → IsArgument word a → ⊥

-- a word of ARGS is no argument, or that of `--peek` says nothing
abbrev pub IsNoCall : Option (Text × List Row) → Type 0
IsNoCall named = Any IsNoArgument (call_words named) ⊎ (peek_said (peek_word named) ≡ None)

-- clap's model finds an error, or the words of a call are none
abbrev pub IsOutside : List Text → Type 0
IsOutside words = (fault_of program words ≢ []) ⊎ IsNoCall (subcommand_of program words)

-- the command, or why there is none; memory may run out at any words
abbrev pub Reads : List Text → Result Command WordsStop → Type 0
Reads words (Ok c) = IsCommand words c
Reads words (Err Outside) = IsOutside words
Reads words (Err NoMemory) = Unit {0}

-- the value, or that there is none; memory may run out
abbrev pub Gives : {X : Type 0} → Option X → Result X WordsStop → Type 0
Gives value (Ok x) = value ≡ Some x
Gives value (Err Outside) = value ≡ None
Gives value (Err NoMemory) = Unit {0}
