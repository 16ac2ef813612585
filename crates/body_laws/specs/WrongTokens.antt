-- Where the tokens of a body are wrong (WebAssembly Core 1.0, 5.4): at an opcode, or after it at the first field that isn't encoded.
use Rattle.std.specs.Prelude.{Bool, ◌≡◌, ◌⊎◌, ℕ, ℤ, ◌+◌, List, [], ◌∷◌, ◌++◌, length, replicate}
use Rattle.wasm_defs.specs.declared.fault.Kind.TheVariants.{Malformed}
use Rattle.wasm_defs.specs.declared.fault.Refusal.{Refusal}
use Rattle.wasm_defs.specs.declared.token.BlockType.{BlockType}
use Rattle.wasm_defs.specs.declared.token.Token.{Token}
use Rattle.wasm_defs.specs.declared.types.ValType.{ValType}
use Rattle.wasm_defs.specs.Codes.{block_type_is, instruction_is, signed_is}
use Rattle.wasm_defs.specs.Items.{Spelling, ◌then◌, exactly, listed_index_is}
use Rattle.wasm_laws.specs.Sections.{AreBytes}
use Rattle.body_laws.specs.WrongFields.{IsWrong}

-- what fields follow an opcode: an index, an alignment or an offset; the type of a block; a byte that is zero; a signed number
pub data Field : Type 0 where
  Index : Field
  Typed : Field
  Zero : Field
  Signed : (ty : ValType) → Field

-- such a field, whatever its value
abbrev pub field_is : Field → Spelling
field_is Index = λ at bytes. (i : ℕ) × listed_index_is i at bytes
field_is Typed = λ at bytes. (t : BlockType) × block_type_is t at bytes
field_is Zero = exactly (0x00 ∷ [])
field_is (Signed ty) = λ at bytes. (n : ℤ) × signed_is ty n at bytes

abbrev pub fields_are : List Field → Spelling
fields_are [] = exactly []
fields_are (f ∷ fs) = field_is f then fields_are fs

-- some fields; a table of labels, which are so many, and one more; or a number, and what depends on it
pub data Following : Type 0 where
  Fields : (fs : List Field) → Following
  Labels : Following
  Numbered : Following

-- whatever bytes
abbrev pub anything : Spelling
anything = λ at bytes. Unit {0}

abbrev pub following_is : Following → Spelling
following_is (Fields fs) = fields_are fs
following_is Labels = λ at bytes. (n : ℕ) × (listed_index_is n then fields_are (replicate n Index) then field_is Index) at bytes
following_is Numbered = field_is Index then anything

-- an opcode: a byte; or the prefix FC, and the number after it
abbrev pub opcode_is : Spelling
opcode_is = λ at bytes. ((b : ℕ) × (bytes ≡ b ∷ [])) ⊎ ((n : ℕ) × (exactly (0xFC ∷ []) then listed_index_is n) at bytes)

-- ---- wrong

abbrev pub IsWrongField : Field → (at : ℕ) → List ℕ → (last : ℕ) → Refusal → Type 0
IsWrongField f at bytes last r = IsWrong (λ (u : Unit {0}). field_is f) at bytes last r

-- some of these fields are encoded, and the next one is wrong
abbrev pub AreWrongFields : List Field → (at : ℕ) → List ℕ → (last : ℕ) → Refusal → Type 0
AreWrongFields [] at bytes last r = ⊥
AreWrongFields (f ∷ fs) at bytes last r =
    IsWrongField f at bytes last r
    ⊎ ((front back : List ℕ) × (bytes ≡ front ++ back) × field_is f at front × AreWrongFields fs (at + length front) back last r)

-- the number of labels is encoded, and one of them is wrong, or they are encoded too, and the last one is wrong
pub record AreWrongLabels (at : ℕ) (bytes : List ℕ) (last : ℕ) (r : Refusal) : Type 0 where
  pub count : ℕ
  pub front : List ℕ
  pub back : List ℕ
  pub parts : bytes ≡ front ++ back
  pub spelled : listed_index_is count at front
  pub wrong : AreWrongFields (replicate count Index) (at + length front) back last r
      ⊎ ((labels more : List ℕ) × (back ≡ labels ++ more) × fields_are (replicate count Index) (at + length front) labels × IsWrongField Index (at + length front + length labels) more last r)

abbrev pub IsWrongFollowing : Following → (at : ℕ) → List ℕ → (last : ℕ) → Refusal → Type 0
IsWrongFollowing (Fields fs) at bytes last r = AreWrongFields fs at bytes last r
IsWrongFollowing Labels at bytes last r = IsWrongField Index at bytes last r ⊎ AreWrongLabels at bytes last r
IsWrongFollowing Numbered at bytes last r = IsWrongField Index at bytes last r

-- the first byte, or the prefix with its number, begins no token
pub record IsNoOpcode (counted : Bool) (at : ℕ) (bytes : List ℕ) (r : Refusal) : Type 0 where
  pub opcode : List ℕ
  pub behind : List ℕ
  pub parts : bytes ≡ opcode ++ behind
  pub is : opcode_is at opcode
  pub none : (t : Token) (more : List ℕ) → instruction_is counted t at (opcode ++ more) → ⊥
  pub place : r.offset ≡ at

-- it is an opcode, which is followed so in all tokens; and here that is wrong
pub record IsWrongBehindOpcode (counted : Bool) (at : ℕ) (bytes : List ℕ) (last : ℕ) (r : Refusal) : Type 0 where
  pub opcode : List ℕ
  pub behind : List ℕ
  pub parts : bytes ≡ opcode ++ behind
  pub is : opcode_is at opcode
  pub following : Following
  pub follows : (t : Token) (more : List ℕ) → AreBytes more → instruction_is counted t at (opcode ++ more) → following_is following (at + length opcode) more
  pub wrong : IsWrongFollowing following (at + length opcode) behind last r

-- the bytes begin no token: the error is at the first field that isn't encoded; or, where the bytes end before it does, at the body's
-- last byte
abbrev pub IsWrongToken : Bool → (at : ℕ) → List ℕ → (last : ℕ) → Refusal → Type 0
IsWrongToken counted at bytes last r =
    ((bytes ≡ []) × (r ≡ record { offset = last; kind = Malformed }))
    ⊎ IsNoOpcode counted at bytes r
    ⊎ IsWrongBehindOpcode counted at bytes last r
