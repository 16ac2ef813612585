-- The signatures of an image's exports keep their bounds.
use Rattle.std.proofs.Common.{◌≡◌, ℕ, zero, suc, ◌≤◌, ◌||◌, not, Bool, true, false, slice_get, List, [], ◌∷◌, ◌++◌, length, map, None, Some, inl, inr, refl, ap, subst, arith}
use Rattle.std.specs.Str.{bytes_eq}
use Rattle.std.proofs.lemmas.Bool.{and_parts, cases_Bool}
use Rattle.std.proofs.lemmas.List.{length-map}
use Rattle.wasm_defs.specs.declared.types.ValType.{ValType}
use Rattle.wasm_defs.specs.declared.value.Value.{Value}
use Rattle.wasm_defs.specs.Typing.{same_type, same_types}
use Rattle.wasm_defs.specs.Values.{type_of}
use Rattle.image_format.specs.Contents.{Image, IsImage}
use Rattle.image_format.specs.declared.limits.TheConstants.{PARAMS, RESULTS}
use Rattle.image_format.specs.declared.image.Export.{Export}
use Rattle.image_format.specs.declared.image.Import.{Import}
use Rattle.image_format.specs.Bounds.{Each, ExportFits, IsSignature}
use Rattle.image_run.specs.declared.checks.NotRunnable.TheVariants.{UnknownImport, WrongArguments}
use Rattle.image_run.specs.Checks.{export_named, has_unknown_import, is_known, not_runnable, unfit}

pub signature_of_export : (words : ℕ) (front es : List Export) (name : List ℕ) (e : Export) → Each (ExportFits words) front es → export_named name es ≡ Some e → IsSignature e.signature
signature_of_export words front [] name e fits is = absurd cc
signature_of_export words front (x ∷ es) name e fits is =
    elim (cases_Bool (bytes_eq name x.name)) [
      | inl h ↦
          let t : Some x ≡ Some e = rw h at is in
          let same : x ≡ e = cc in
          subst (λ (y : Export). IsSignature y.signature) same fits.0.is.signature
      | inr h ↦
          let t : export_named name es ≡ Some e = rw h at is in
          signature_of_export words (front ++ x ∷ []) es name e fits.1 t
    ]

same_length : (ts us : List ValType) → same_types ts us ≡ true → length ts ≡ length us
same_length [] [] h = refl
same_length (t ∷ ts) [] h = absurd cc
same_length [] (u ∷ us) h = absurd cc
same_length (t ∷ ts) (u ∷ us) h = ap suc (same_length ts us (and_parts (same_type t u) (same_types ts us) h).1)

fit_types : (i : Image) (types : List ValType) (e : Export) → unfit i types (Some e) ≡ None → same_types types e.signature.params ≡ true
fit_types i types e is =
    elim (cases_Bool (same_types types e.signature.params)) [
      | inl h ↦ h
      | inr h ↦ absurd (let t : Some WrongArguments ≡ None = rw h at is in cc)
    ]

-- the arguments of a call that can be made are few
pub few_arguments : (i : Image) (name : List ℕ) (values : List Value) (e : Export) → IsImage i → unfit i (map type_of values) (export_named name i.exports) ≡ None → export_named name i.exports ≡ Some e → length values ≤ PARAMS
few_arguments i name values e bounds is found =
    let fit = fit_types i (map type_of values) e (rw found at is) in
    let signature = signature_of_export (length i.text) [] i.exports name e bounds.exports.1 found in
    omega (arith, length-map values type_of, same_length (map type_of values) e.signature.params fit, signature.params)

pub few_results : (i : Image) (name : List ℕ) (e : Export) → IsImage i → export_named name i.exports ≡ Some e → length e.signature.results ≤ RESULTS
few_results i name e bounds found = (signature_of_export (length i.text) [] i.exports name e bounds.exports.1 found).results

-- where the checks find nothing, all imports are known, and the call can be made
pub all_known : (i : Image) (name : List ℕ) (types : List ValType) → not_runnable i name types ≡ None → has_unknown_import i.imports ≡ false
all_known i name types is =
    elim (cases_Bool (has_unknown_import i.imports)) [
      | inl h ↦ absurd (let t : Some UnknownImport ≡ None = rw h at is in cc)
      | inr h ↦ h
    ]

pub then_fit : (i : Image) (name : List ℕ) (types : List ValType) → not_runnable i name types ≡ None → unfit i types (export_named name i.exports) ≡ None
then_fit i name types is = rw (all_known i name types is) at is

pub known_at : (is : List Import) (number : ℕ) (import : Import) → has_unknown_import is ≡ false → slice_get is number ≡ Some import → is_known import ≡ true
known_at [] number import known there = absurd cc
known_at (x ∷ is) zero import known there =
    let same : x ≡ import = cc in
    subst (λ (y : Import). is_known y ≡ true) same (first (is_known x) (has_unknown_import is) known)
  where
    first : (a b : Bool) → (not a || b) ≡ false → a ≡ true
    first true b e = refl
    first false b e = absurd cc
known_at (x ∷ is) (suc number) import known there = known_at is number import (rest (is_known x) (has_unknown_import is) known) there
  where
    rest : (a b : Bool) → (not a || b) ≡ false → b ≡ false
    rest true b e = e
    rest false b e = absurd cc
