-- What the opcodes encode, and the bytes after it.
use Rattle.std.proofs.Common.{◌≡◌, ◌<◌, ℕ, Bool, true, None, List, [], ◌∷◌, drop, length, get_or, refl, ap, ◌∙◌, subst}
use Rattle.std.proofs.lemmas.List.{get_or_default}
use Rattle.std.proofs.lemmas.List.Elements.{All-drop}
use Rattle.std.proofs.Math.Seq.{drop-append_seam}
use Rattle.wasm_defs.specs.declared.token.Plain.{Plain}
use Rattle.wasm_defs.specs.declared.token.Plain.TheVariants.{Unreachable, Nop, Br, BrIf, BrTable, Return, Call, CallIndirect}
use Rattle.wasm_defs.specs.declared.token.Token.{Token}
use Rattle.wasm_defs.specs.Bodies.{instruction}
use Rattle.wasm_defs.specs.Fields.{Cursor, Read, Got, byte}
use Rattle.wasm_laws.specs.Immediates.{TokenIsInRange}
use Rattle.wasm_laws.specs.Sections.{AreBytes}
use Rattle.wasm_laws.specs.Steadiness.{Advance, Advances, IfGot}
use Rattle.wasm_laws.proofs.Steady.{here_in}
use Rattle.wasm_laws.proofs.BodyLaws.{instruction_steady}
use Rattle.wasm_laws.proofs.Bytes.{each_byte}
use Rattle.wasm_laws.proofs.Ranges.{InRange, instruction_in_range}
use Rattle.body_compiler.specs.Emitted.{is_straight_plain}
use Rattle.body_compiler.specs.Steps.{called_plain, indirect_plain}
use Rattle.body_compiler.proofs.Going.{byte_is}

pub token_in_range : (counted : Bool) (at b : ℕ) (d e : Cursor) (t : Token) → AreBytes d.rest → instruction counted at b d ≡ Got t e → TokenIsInRange t
token_in_range counted at b d e t bytes is = subst (λ (x : Read Token). IfGot InRange x) is (instruction_in_range counted at b d (each_byte d.rest bytes))

-- an instruction that is none of these is straight
pub others : (p : Plain) → (p ≡ Unreachable → ⊥) → ((l : ℕ) → p ≡ Br l → ⊥) → ((l : ℕ) → p ≡ BrIf l → ⊥) → ((ls : List ℕ) (l : ℕ) → p ≡ BrTable ls l → ⊥) → (p ≡ Return → ⊥) → called_plain p ≡ None → indirect_plain p ≡ None → is_straight_plain p ≡ true
others Unreachable a b c d e n m = absurd (a refl)
others (Br l) a b c d e n m = absurd (b l refl)
others (BrIf l) a b c d e n m = absurd (c l refl)
others (BrTable ls l) a b c d e n m = absurd (d ls l refl)
others Return a b c d e n m = absurd (e refl)
others (Call f) a b c d e n m = absurd cc
others (CallIndirect i table) a b c d e n m = absurd cc
others Nop a b c d e n m = refl
others p a b c d e n m = refl

-- ---- bytes

pub bytes_are : (bytes : List ℕ) → ((i : ℕ) → get_or bytes i 0 < 256) → AreBytes bytes
bytes_are bytes h = λ k d lt. rw (get_or_default bytes k d 0 lt) (h k)

rest_bytes : (c d : Cursor) → Advance c d → AreBytes c.rest → AreBytes d.rest
rest_bytes c d p h =
    let behind : drop (length p.taken) c.rest ≡ d.rest = ap (drop (length p.taken)) p.parts ∙ drop-append_seam p.taken d.rest in
    subst AreBytes behind (All-drop (λ b. b < 256) (length p.taken) c.rest h)

pub bytes_behind : (c d : Cursor) (at b : ℕ) → byte c ≡ Got (at, b) d → AreBytes c.rest → AreBytes d.rest
bytes_behind c d at b is h = rest_bytes c d (byte_is c d at b is).advance h

pub bytes_later : (counted : Bool) (at b : ℕ) (d e : Cursor) (t : Token) → instruction counted at b d ≡ Got t e → AreBytes d.rest → AreBytes e.rest
bytes_later counted at b d e t is h =
    let s = instruction_steady (at ∷ []) counted at b here_in in
    rest_bytes d e (subst (λ (x : Read Token). Advances d x) is (s.moves d)) h

pub bytes_moved : {A : Type 0} (c d : Cursor) (x : A) (r : Read A) → r ≡ Got x d → Advances c r → AreBytes c.rest → AreBytes d.rest
bytes_moved c d x r is adv h = rest_bytes c d (subst (Advances c) is adv) h
