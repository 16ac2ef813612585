-- Which bytes are a module outside its bodies (WebAssembly Core 1.0, 5.5): encodings joined one after the other, with no
-- reader. What else the items must keep to is said in Rules.
use Rattle.std.specs.Prelude.{◌≡◌, ◌≢◌, ◌<◌, ◌≤◌, ℕ, ◌+◌, ℤ, pos, Bool, true, false, List, [], ◌∷◌, ◌++◌, length, Option, Some, None, is_some}
use Rattle.std.specs.List.{All}
use Rattle.std.specs.Str.{IsUtf8}
use Rattle.wasm_defs.specs.declared.types.ValType.{ValType}
use Rattle.wasm_defs.specs.declared.types.ValType.TheVariants.{I32, I64}
use Rattle.wasm_defs.specs.declared.item.Extern.{Extern}
use Rattle.wasm_defs.specs.declared.item.Extern.TheVariants as extern
use Rattle.wasm_defs.specs.declared.item.Limits.{Limits}
use Rattle.wasm_defs.specs.declared.item.Constant.{Constant}
use Rattle.wasm_defs.specs.declared.item.Item.{Item}
use Rattle.wasm_defs.specs.declared.item.Item.TheVariants.{Signature, Imported, Function, Table, Memory, Global, Exported, Start, Element, Code, DataCount, Passive, Segment}
use Rattle.wasm_defs.specs.Numbers.{Spells}
use Rattle.wasm_defs.specs.Entries.{const_opcode}
use Rattle.wasm_defs.specs.Context.{declared_count, data_count_of, segment_count_of}
use Rattle.wasm_defs.specs.Outside.{Body, magic, version, agrees, id_of}
use Rattle.wasm_defs.specs.Values.{bits}

-- ---- encodings

-- what some bytes encode, the first of which has that offset
abbrev pub Spelling : Type 1
Spelling = ℕ → List ℕ → Type 0

-- one encoding first, and another after it
pub record Joined (p q : Spelling) (at : ℕ) (bytes : List ℕ) : Type 0 where
  pub front : List ℕ
  pub back : List ℕ
  pub parts : bytes ≡ front ++ back
  pub first : p at front
  pub second : q (at + length front) back

infixr 10 ◌then◌
abbrev pub ◌then◌ : Spelling → Spelling → Spelling
p then q = Joined p q

-- these bytes and no others
abbrev pub exactly : List ℕ → Spelling
exactly run = λ at bytes. bytes ≡ run

-- so many encodings, one after the other
abbrev pub each_is : {A : Type 0} → (A → Spelling) → List A → Spelling
each_is p [] = exactly []
each_is p (x ∷ xs) = p x then each_is p xs

-- ---- values (5.2): a field is at its offset

abbrev pub byte_is : ℕ → ℕ → Spelling
byte_is offset b = λ at bytes. (offset ≡ at) × (bytes ≡ b ∷ [])

-- a number of so many bits (5.2.2)
abbrev pub number_is : Bool → ℕ → ℕ × ℤ → Spelling
number_is signed bits n = λ at bytes. (n.0 ≡ at) × Spells n.1 bits signed bytes

abbrev pub u32_is : ℕ × ℕ → Spelling
u32_is n = number_is false 32 (n.0, pos n.1)

-- a count, and so many of a kind (5.1.3)
abbrev pub vector_is : {A : Type 0} → (A → Spelling) → ℕ → List A → Spelling
vector_is p offset xs = u32_is (offset, length xs) then each_is p xs

-- a size, and so many bytes, which encode p
pub record Sized (offset : ℕ) (p : Spelling) (at : ℕ) (bytes : List ℕ) : Type 0 where
  pub front : List ℕ
  pub content : List ℕ
  pub parts : bytes ≡ front ++ content
  pub size : u32_is (offset, length content) at front
  pub is : p (at + length front) content

-- a vector of bytes
abbrev pub bytes_are : ℕ × List ℕ → Spelling
bytes_are run = Sized run.0 (exactly run.1)

-- a name is UTF-8 (5.2.4)
abbrev pub name_is : ℕ × List ℕ → Spelling
name_is name = λ at bytes. IsUtf8 name.1 × bytes_are name at bytes

-- ---- types (5.3)

-- a value type (5.3.1)
abbrev pub type_code : ValType → ℕ
type_code I32 = 0x7F
type_code I64 = 0x7E

abbrev pub type_is : ℕ × ValType → Spelling
type_is ty = byte_is ty.0 (type_code ty.1)

-- one without its offset
abbrev pub listed_type_is : ValType → Spelling
listed_type_is ty = exactly (type_code ty ∷ [])

-- limits (5.3.4)
abbrev pub bounds_are : ℕ → ℕ × ℕ → Option (ℕ × ℕ) → Spelling
bounds_are flag min None = byte_is flag 0x00 then u32_is min
bounds_are flag min (Some max) = byte_is flag 0x01 then u32_is min then u32_is max

abbrev pub limits_are : Limits → Spelling
limits_are l = bounds_are l.flag l.min l.max

-- whether a global is set (5.3.7)
abbrev pub mutability_code : Bool → ℕ
mutability_code false = 0x00
mutability_code true = 0x01

-- ---- parts of entries

-- an index without its offset (5.5.1)
abbrev pub listed_index_is : ℕ → Spelling
listed_index_is i = λ at bytes. Spells (pos i) 32 false bytes

-- a constant of a type, and `end` (5.4.5, 5.4.6)
abbrev pub constant_is : ValType → Constant → Spelling
constant_is ty c = byte_is c.opcode (const_opcode ty) then number_is true (bits ty) c.value then byte_is c.end 0x0B

-- what is exported (5.5.10)
abbrev pub extern_code : Extern → ℕ
extern_code extern.Function = 0x00
extern_code extern.Table = 0x01
extern_code extern.Memory = 0x02
extern_code extern.Global = 0x03

-- ---- items (5.3.3, and 5.5.5 to 5.5.14): the start function, the code's count and the data count are in no vector

abbrev pub item_is : Item → Spelling
item_is (Signature form params results ty) = byte_is form 0x60 then vector_is listed_type_is params ty.params then vector_is listed_type_is results ty.results
item_is (Imported from what kind type_index) = name_is from then name_is what then byte_is kind 0x00 then u32_is type_index
item_is (Function type_index) = u32_is type_index
item_is (Table element limits) = byte_is element 0x70 then limits_are limits
item_is (Memory limits) = limits_are limits
item_is (Global ty mutable init) = type_is ty then byte_is mutable.0 (mutability_code mutable.1) then constant_is ty.1 init
item_is (Exported label kind index) = name_is label then byte_is kind.0 (extern_code kind.1) then u32_is index
item_is (Start index) = λ at bytes. ⊥
item_is (Element table place functions) = u32_is table then constant_is I32 place then vector_is listed_index_is functions.0 functions.1
item_is (Code count end) = λ at bytes. ⊥
item_is (DataCount count) = λ at bytes. ⊥
item_is (Passive form bytes) = u32_is (form, 1) then bytes_are bytes
item_is (Segment form None place bytes) = u32_is (form, 0) then constant_is I32 place then bytes_are bytes
item_is (Segment form (Some memory) place bytes) = u32_is (form, 2) then u32_is memory then constant_is I32 place then bytes_are bytes

-- the position of the section that an item is in (5.5.2)
abbrev pub section_of : Item → ℕ
section_of (Signature form params results ty) = 1
section_of (Imported from what kind type_index) = 2
section_of (Function type_index) = 3
section_of (Table element limits) = 4
section_of (Memory limits) = 5
section_of (Global ty mutable init) = 6
section_of (Exported label kind index) = 7
section_of (Start index) = 8
section_of (Element table place functions) = 9
section_of (DataCount count) = 10
section_of (Code count end) = 11
section_of (Passive form bytes) = 12
section_of (Segment form memory place bytes) = 12

abbrev pub AllOf : ℕ → List Item → Type 0
AllOf position [] = Unit {0}
AllOf position (x ∷ xs) = (section_of x ≡ position) × AllOf position xs

-- a body (5.5.13): its size, and its bytes, which are two at least, the count of its locals and the `end` of its code
abbrev pub body_is : Body → Spelling
body_is b = Sized b.size (λ at bytes. (b.first ≡ at) × (bytes ≡ b.bytes) × (2 ≤ length bytes))

-- ---- sections (5.5.2)

-- what a section holds: a name, and any bytes (5.5.3); the items of a vector, by their section's position, and the offset of their
-- count; the start function; the data count (Core 2.0, 5.5.15); or the bodies, the offset of their count, and that where the section
-- ends
pub data Payload : Type 0 where
  Custom : (name : ℕ × List ℕ) → Payload
  Vector : (position count : ℕ) (items : List Item) → Payload
  Starting : (index : ℕ × ℕ) → Payload
  Counting : (count : ℕ × ℕ) → Payload
  Bodies : (count end : ℕ) (bodies : List Body) → Payload

abbrev pub payload_position : Payload → ℕ
payload_position (Custom name) = 0
payload_position (Vector position count items) = position
payload_position (Starting index) = 8
payload_position (Counting count) = 10
payload_position (Bodies count end bodies) = 11

abbrev pub payload_id : Payload → ℕ
payload_id p = id_of (payload_position p)

-- the sections that hold a vector of items
abbrev pub HoldsVector : ℕ → Type 0
HoldsVector position = (1 ≤ position) × (position ≤ 12) × (position ≢ 8) × (position ≢ 11) × (position ≢ 10)

abbrev pub payload_is : Payload → Spelling
payload_is (Custom name) = name_is name then (λ at bytes. Unit {0})
payload_is (Vector position count items) = λ at bytes. HoldsVector position × AllOf position items × vector_is item_is count items at bytes
payload_is (Starting index) = u32_is index
payload_is (Counting count) = u32_is count
payload_is (Bodies count end bodies) = λ at bytes. (end ≡ at + length bytes) × vector_is body_is count bodies at bytes

-- a section: the offsets of its id and of its size, and what it holds
pub record Section : Type 0 where
  pub id : ℕ
  pub size : ℕ
  pub payload : Payload

abbrev pub section_is : Section → Spelling
section_is s = byte_is s.id (payload_id s.payload) then Sized s.size (payload_is s.payload)

-- ---- modules (5.5.15)

abbrev pub payload_items : Payload → List Item
payload_items (Custom name) = []
payload_items (Vector position count items) = items
payload_items (Starting index) = Start index ∷ []
payload_items (Counting count) = DataCount count ∷ []
payload_items (Bodies count end bodies) = Code (count, length bodies) end ∷ []

abbrev pub payload_bodies : Payload → List Body
payload_bodies (Custom name) = []
payload_bodies (Vector position count items) = []
payload_bodies (Starting index) = []
payload_bodies (Counting count) = []
payload_bodies (Bodies count end bodies) = bodies

abbrev pub items_in : List Section → List Item
items_in [] = []
items_in (s ∷ sections) = payload_items s.payload ++ items_in sections

abbrev pub bodies_in : List Section → List Body
bodies_in [] = []
bodies_in (s ∷ sections) = payload_bodies s.payload ++ bodies_in sections

-- sections are in the order of their positions, each once; custom ones are anywhere
abbrev pub StandsBehind : ℕ → Payload → Type 0
StandsBehind last (Custom name) = Unit {0}
StandsBehind last p = last < payload_position p

abbrev pub last_with : ℕ → Payload → ℕ
last_with last (Custom name) = last
last_with last p = payload_position p

abbrev pub AreInOrder : ℕ → List Section → Type 0
AreInOrder last [] = Unit {0}
AreInOrder last (s ∷ sections) = StandsBehind last s.payload × AreInOrder (last_with last s.payload) sections

-- the bytes are a module of these sections: magic, version and the sections, with a body for each declared function; where there is a
-- data count, with as many data segments; and each body says whether there is one
pub record Items (bytes : List ℕ) (sections : List Section) : Type 0 where
  pub spelled : (exactly magic then exactly version then each_is section_is sections) 0 bytes
  pub ordered : AreInOrder 0 sections
  pub matched : length (bodies_in sections) ≡ declared_count (items_in sections)
  pub counted : agrees (data_count_of (items_in sections)) (segment_count_of (items_in sections)) ≡ true
  pub told : All (λ b. b.counted ≡ is_some (data_count_of (items_in sections))) (bodies_in sections)
