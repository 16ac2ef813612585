-- What a module's items come to in its image: instruction words of its globals' constants.
use Rattle.std.proofs.Common.{◌≡◌, ℕ, zero, suc, ◌-◌, ◌^◌, ◌<◌, List, [], ◌∷◌, map, Some, refl, ap, subst, arith, ℤ, pos}
use Rattle.std.specs.Prelude.{negsuc, slice_get}
use Rattle.std.specs.Int.{w64, cast_unsigned}
use Rattle.std.proofs.lemmas.Bool.{lt-ltb, le-ltb}
use Rattle.wasm_defs.specs.declared.context.GlobalType.{GlobalType}
use Rattle.wasm_defs.specs.declared.item.Item.{Item}
use Rattle.wasm_defs.specs.declared.item.Item.TheVariants.{Global}
use Rattle.wasm_defs.specs.declared.types.ValType.{ValType}
use Rattle.wasm_defs.specs.declared.types.ValType.TheVariants.{I32, I64}
use Rattle.wasm_defs.specs.Context.{globals_of}
use Rattle.wasm_defs.specs.Instances.{values_of}
use Rattle.wasm_defs.specs.Values.{Value, InRange, modulus, unsigned, word, words_of, types_of_values}
use Rattle.wasm_laws.specs.Kept.{FitsType, ConstantsFit}
use Rattle.wasm_laws.proofs.Ranges.{constant_fits, long_constant_fits}
use Rattle.index_spaces.specs.Entries.{initials_of, initial_values}
use Rattle.simulation.specs.Functions.{global_types}
use Rattle.simulation.proofs.Frames.Words.{word_small}
use Rattle.image_linker.specs.Linking.{NumbersFit}
use Rattle.image_linker.proofs.Regions.{AreWords}

pub numbers_fit : (items : List Item) → ConstantsFit items → NumbersFit (globals_of items) (initials_of items)
numbers_fit [] h = tt
numbers_fit (Global ty mutable init ∷ items) h = (h.0, numbers_fit items h.1)
numbers_fit (x ∷ items) h = numbers_fit items h

fits_is_small : (t : ValType) (n : ℤ) → FitsType t n → unsigned t n < modulus t
fits_is_small I32 n h = constant_fits n h
fits_is_small I64 n h = long_constant_fits n h

pub values_are_words : (items : List Item) → ConstantsFit items → AreWords (words_of (values_of items))
values_are_words [] h = tt
values_are_words (Global ty mutable init ∷ items) h = (word_small ty.1 (unsigned ty.1 init.value.1) (fits_is_small ty.1 init.value.1 h.0), values_are_words items h.1)
values_are_words (x ∷ items) h = values_are_words items h

-- a global begins with a value of its type
pub globals_typed : (items : List Item) → global_types (globals_of items) ≡ types_of_values (values_of items)
globals_typed [] = refl
globals_typed (Global ty mutable init ∷ items) = ap (λ (ts : List ValType). ty.1 ∷ ts) (globals_typed items)
globals_typed (x ∷ items) = globals_typed items

pub values_in_range : (items : List Item) → ConstantsFit items → (x : ℕ) (v : Value) → slice_get (values_of items) x ≡ Some v → InRange v
values_in_range [] h x v e = absurd cc
values_in_range (Global ty mutable init ∷ items) h zero v e =
    let same : record { ty = ty.1; number = unsigned ty.1 init.value.1 } ≡ v = cc in
    subst InRange same (fits_is_small ty.1 init.value.1 h.0)
values_in_range (Global ty mutable init ∷ items) h (suc x) v e = values_in_range items h.1 x v e
values_in_range (y ∷ items) h x v e = values_in_range items h x v e

-- the word of a number of a type has the bits of the number, as one of 64
word_is : (t : ValType) (n : ℤ) → FitsType t n → cast_unsigned w64 n ≡ word t (unsigned t n)
word_is I64 n h = refl
word_is I32 (pos n) h = rw (lt-ltb n (2 ^ 31) (omega (arith, h.sfits))) refl
word_is I32 (negsuc n) h = rw (le-ltb (2 ^ 32 - suc n) (2 ^ 31) (omega (arith, h.sfits))) (omega (arith, h.sfits))

pub numbers_are_words : (globals : List GlobalType) (numbers : List ℤ) → NumbersFit globals numbers → map (cast_unsigned w64) numbers ≡ words_of (initial_values globals numbers)
numbers_are_words [] [] h = refl
numbers_are_words (g ∷ globals) (n ∷ numbers) h = rw (word_is g.ty n h.0) (ap (λ (l : List ℕ). word g.ty (unsigned g.ty n) ∷ l) (numbers_are_words globals numbers h.1))
numbers_are_words [] (n ∷ numbers) h = absurd h
numbers_are_words (g ∷ globals) [] h = absurd h
