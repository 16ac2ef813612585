-- A module outside its bodies, read from the left: what is in it, in order, and how reading ends (WebAssembly Core 1.0,
-- 5.5).
use Rattle.std.specs.Prelude.{ℕ, zero, suc, ◌+◌, ◌-◌, Bool, true, Option, Some, None, is_some, ◌&&◌, ◌||◌, ◌==◌, not, List, [], ◌∷◌, length, nat_lt, nat_le, if◌then◌else◌}
use Rattle.wasm_defs.specs.declared.fault.Kind.TheVariants.{Malformed, Limit, Invalid}
use Rattle.wasm_defs.specs.declared.fault.Refusal.{Refusal}
use Rattle.wasm_defs.specs.declared.item.Item.{Item}
use Rattle.wasm_defs.specs.Limits.{max_entries, max_body, max_module}
use Rattle.wasm_defs.specs.Fields.{Cursor, Read, Got, Fault, Wants, Reader, ◌>>=◌, done, refused, room_of, byte, u32, count, run, room, here, name, fixed}
use Rattle.wasm_defs.specs.Entries.{Seen, nothing, or_zero, note, signature, imported, function, table, memory, global, exported, start, element, code, data_count, segment}

-- a body: whether the module counts its data segments, the offsets of its size and of its first byte, and its bytes
pub record Body : Type 0 where
  pub counted : Bool
  pub size : ℕ
  pub first : ℕ
  pub bytes : List ℕ

-- what reading meets: a section, by the offset of its id and its position in the order; an item; or a body
pub data Part : Type 0 where
  Section : (at position : ℕ) → Part
  Listed : (x : Item) → Part
  Coded : (b : Body) → Part

-- ---- what comes before and after the entries of a section

abbrev pub Nothing : Type 0
Nothing = Unit {0}

abbrev pub nothing_more : Reader Nothing
nothing_more = done tt

-- passes over what the section has left
unfoldable pub rest_of_section : Reader Nothing
rest_of_section = do
  left ← room
  bytes ← run left
  done tt

unfoldable pub number_of : ℕ → Reader ℕ
number_of most = do
  n ← count most
  done n.1

-- no more than one, as validation wants it
unfoldable pub at_most_one : Reader ℕ
at_most_one = do
  n ← u32
  if nat_lt 1 n.1 then refused Invalid n.0 else done n.1

-- imports and functions together have one limit
unfoldable pub function_count : Seen → Reader ℕ
function_count seen = do
  n ← u32
  if nat_lt max_entries (seen.functions + n.1) then refused Limit n.0 else done n.1

-- as many segments as the data count says
abbrev pub agrees : Option ℕ → ℕ → Bool
agrees None n = true
agrees (Some count) n = n == count

unfoldable pub segment_count : Seen → Reader ℕ
segment_count seen = do
  n ← u32
  if agrees seen.data_count n.1 then (if nat_lt max_entries n.1 then refused Limit n.0 else done n.1)
      else refused Malformed n.0

unfoldable pub custom_name : Reader ℕ
custom_name = do
  n ← name
  done 0

-- an item as a part
abbrev pub listed : Reader Item → Reader Part
listed p = do
  x ← p
  done (Listed x)

-- a body's size, and its bytes
unfoldable pub body : Bool → Reader Part
body counted = do
  n ← u32
  left ← room
  if nat_lt n.1 2 || nat_lt left n.1 then refused Malformed n.0
      else if nat_lt max_body n.1 then refused Limit n.0
      else (do
        at ← here
        bytes ← run n.1
        done (Coded (record { counted = counted; size = n.0; first = at; bytes = bytes })))

-- ---- sections, by their positions in the order: that of their ids, but that the data count comes before the code (Core 2.0, 5.5.16).
-- Custom sections have position 0 and are anywhere

abbrev pub position_of : ℕ → ℕ
position_of id = if id == 12 then 10 else if id == 10 || id == 11 then id + 1 else id

abbrev pub id_of : ℕ → ℕ
id_of position = if position == 10 then 12 else if position == 11 || position == 12 then position - 1 else position

-- what a section has before its entries, which gives their number; each entry; what it has after them
pub record Row : Type 0 where
  pub front : Seen → Reader ℕ
  pub entry : Seen → Reader Part
  pub back : Reader Nothing

abbrev pub entries_of : (Seen → Reader ℕ) → (Seen → Reader Item) → Row
entries_of front entry = record { front = front; entry = λ s. listed (entry s); back = nothing_more }

-- the code section's count, and then its bodies
abbrev pub code_entry : Seen → Reader Part
code_entry seen = if seen.counted then body (is_some seen.data_count) else listed (code seen)

-- a row for each position
abbrev pub row : ℕ → Row
row position =
    if position == 1 then entries_of (λ s. number_of max_entries) signature
    else if position == 2 then entries_of (λ s. number_of max_entries) imported
    else if position == 3 then entries_of function_count function
    else if position == 4 then entries_of (λ s. at_most_one) table
    else if position == 5 then entries_of (λ s. at_most_one) memory
    else if position == 6 then entries_of (λ s. number_of max_entries) global
    else if position == 7 then entries_of (λ s. number_of max_entries) exported
    else if position == 8 then entries_of (λ s. done 1) start
    else if position == 9 then entries_of (λ s. number_of max_entries) element
    else if position == 10 then entries_of (λ s. done 1) data_count
    else if position == 11 then record { front = λ s. done (s.declared + 1); entry = code_entry; back = nothing_more }
    else if position == 12 then entries_of segment_count segment
    else record { front = λ s. custom_name; entry = λ s. listed (start s); back = rest_of_section }

-- functions are declared, and no code section came
abbrev pub owes_code : Seen → Bool
owes_code seen = nat_lt 0 seen.declared && nat_lt seen.last 11

-- data segments are counted, and no data section came
abbrev pub owes_data : Seen → Bool
owes_data seen = nat_lt 0 (or_zero seen.data_count) && nat_lt seen.last 12

abbrev pub owes : Seen → Bool
owes seen = owes_code seen || owes_data seen

abbrev pub is_misplaced : Seen → ℕ → Bool
is_misplaced seen position =
    nat_lt 12 position || (not (position == 0) && nat_le position seen.last) || (position == 12 && owes_code seen)

-- a section's position, and where it ends
unfoldable pub header : Seen → Reader (ℕ × ℕ)
header seen = do
  id ← byte
  if is_misplaced seen (position_of id.1) then refused Malformed id.0
      else if nat_le max_module id.0 then refused Limit id.0
      else (do
        size ← u32
        at ← here
        if nat_lt max_module (at + size.1) then refused Limit size.0 else done (position_of id.1, at + size.1))

abbrev pub entered : Seen → ℕ → Seen
entered seen position = if position == 0 then seen else record seen { last = position }

-- what an item or a body adds to what was seen
abbrev pub noted : Seen → Part → Seen
noted seen (Section at position) = seen
noted seen (Listed x) = note seen x
noted seen (Coded b) = seen

-- outside sections no end is near: each field begins within the limit on a module's bytes
abbrev pub no_end : ℕ
no_end = 18446744073709551615

abbrev pub inside : Cursor → ℕ → Cursor
inside c end = record { at = c.at; rest = c.rest; end = end }

-- bytes that are left in a section are Malformed once one came
abbrev pub left_over : Cursor → List ℕ → Read Nothing
left_over c [] = Wants
left_over c (b ∷ bytes) = refused Malformed c.at c

unfoldable pub section_end : Reader Nothing
section_end = λ c. if room_of c == 0 then Got tt (inside c no_end) else left_over c c.rest

-- ---- runs: the parts in order, and how reading ends

pub data Ending : Type 0 where
  Whole : (seen : Seen) → Ending
  Refused : (r : Refusal) → Ending
  Owed : Ending

pub record Run : Type 0 where
  pub parts : List Part
  pub ending : Ending

abbrev pub ends : Ending → Run
ends ending = record { parts = []; ending = ending }

abbrev pub after_part : Part → Run → Run
after_part x r = record { parts = x ∷ r.parts; ending = r.ending }

abbrev pub runs_on : {A : Type 0} → Read A → (A → Cursor → Run) → Run
runs_on (Got x c) f = f x c
runs_on (Fault r) f = ends (Refused r)
runs_on Wants f = ends Owed

abbrev pub Next : Type 0
Next = Seen → Cursor → Run

abbrev pub finish : Row → Next → Next
finish r next = λ seen c. runs_on (r.back c) (λ x d. runs_on (section_end d) (λ y e. next seen e))

-- so many entries, the rest of the section, and what comes next
abbrev pub entries : ℕ → Row → Next → Next
entries zero r next = finish r next
entries (suc n) r next = λ seen c. runs_on (r.entry seen c) (λ x d. after_part x (entries n r next (noted seen x) d))

abbrev pub contents : Row → Next → Next
contents r next = λ seen c. runs_on (r.front seen c) (λ n d. entries n r next seen d)

abbrev pub section : Next → Next
section next = λ seen c. runs_on (header seen c) (λ h d. contents (row h.0) next (entered seen h.0) (inside d h.1))

-- where the bytes end between two sections
abbrev pub at_the_end : Seen → Run
at_the_end seen = if owes seen then ends Owed else ends (Whole seen)

abbrev pub or_section : Next → Seen → Cursor → List ℕ → Run
or_section next seen c [] = at_the_end seen
or_section next seen c (b ∷ bytes) = after_part (Section c.at (position_of b)) (section next seen c)

-- so many sections at most
unfoldable pub sections_up_to : ℕ → Next
sections_up_to zero = λ seen c. ends Owed
sections_up_to (suc n) = λ seen c. or_section (sections_up_to n) seen c c.rest

-- each section takes a byte at least
abbrev pub sections : Next
sections = λ seen c. sections_up_to (length c.rest + 1) seen c

abbrev pub magic : List ℕ
magic = 0x00 ∷ 0x61 ∷ 0x73 ∷ 0x6D ∷ []

abbrev pub version : List ℕ
version = 0x01 ∷ 0x00 ∷ 0x00 ∷ 0x00 ∷ []

unfoldable pub preamble : Reader ℕ
preamble = do
  m ← fixed magic
  v ← fixed version
  done v

abbrev pub beginning : List ℕ → Cursor
beginning bytes = record { at = 0; rest = bytes; end = no_end }

abbrev pub module_read : List ℕ → Run
module_read bytes = runs_on (preamble (beginning bytes)) (λ x c. sections nothing c)
