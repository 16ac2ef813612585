-- A module whose parts were all taken.
use Rattle.std.proofs.Common.{◌≡◌, ℕ, ◌<◌, List, length, Option, Some, None, sym, ap, ◌∙◌, subst, arith}
use Rattle.std.specs.Prelude.{All, IfSome}
use Rattle.rv_isa.specs.declared.compiled.Code.{Code}
use Rattle.wasm_defs.specs.Entries.{Seen}
use Rattle.wasm_defs.specs.Outside.{Run, Whole, ends}
use Rattle.index_spaces.specs.Spaces.{Spaces}
use Rattle.image_linker.specs.ImageOf.{image_of}
use Rattle.image_linker.specs.Judging.{IsModuleOf}
use Rattle.image_linker.specs.Whole.{IsWhole}
use Rattle.image_linker.proofs.Modules.{images_behave_alike}
use Rattle.image_linker.proofs.Short.{images_are_short}
use Rattle.section_reader.specs.FrontLeft.{total}
use Rattle.module_stream.specs.declared.built.Built.{Built}
use Rattle.module_stream.specs.declared.compilation.Compilation.{Compilation}
use Rattle.module_stream.specs.Progress.{IsJudging}
use Rattle.module_stream.specs.Done.{IsDone, IsBuilt}
use Rattle.module_stream.proofs.CodeWords.{words_are_sizes}
use Rattle.module_stream.proofs.Compiled.{is_whole}

-- all bytes of the module came: it is done
pub whole_done : (bytes : List ℕ) (left : Run) (s : Compilation) (seen : Seen) → All (λ b. b < 256) bytes → IsJudging bytes left s.spaces s.codes → left ≡ ends (Whole seen) → total s.front ≡ length bytes → IsDone bytes s
whole_done bytes left s seen fits j whole count =
    let w = is_whole bytes left s.spaces s.codes seen j whole in
    let m = w.0 in
    let h = w.1 in
    let is : IsModuleOf bytes m = record { is = h.is; fits = omega (arith, h.words, words_are_sizes m.items 0 m.bodies m.trees j.all h.coded) } in
    record {
      «module» = m;
      is = record {
        is = is;
        same = images_behave_alike bytes m fits is;
        short = images_are_short bytes m fits is;
        functions_are = ap (λ (x : Spaces). x.declared) h.spaces_are;
        size_is = count;
      };
      all = j.all;
      are_all = j.are_all;
      whole = record { bytes_fit = fits; is = is; spaces_are = h.spaces_are; coded = h.coded };
    }

-- ---- what is linked of a module that is done

kept_are : (o : Option (List Code)) (given all : List Code) → Some given ≡ o → IfSome o (λ k. k ≡ all) → given ≡ all
kept_are None given all e h = absurd cc
kept_are (Some k) given all e h = let same : given ≡ k = cc in same ∙ h

module _ (bytes : List ℕ) (s : Compilation) (given : List Code) (d : IsDone bytes s) (is : Some given ≡ s.codes.kept) where
  -- the codes that are kept are those of the module, in these index spaces
  pub kept_whole : (spaces : Spaces) → spaces ≡ s.spaces → IsWhole bytes d.«module» spaces given
  kept_whole spaces same =
      subst (λ (x : Spaces). IsWhole bytes d.«module» x given) (sym same)
      (subst (λ (codes : List Code). IsWhole bytes d.«module» s.spaces codes) (sym (kept_are s.codes.kept given d.all is d.are_all.kept)) d.whole)

pub done_built : (bytes : List ℕ) (s : Compilation) (d : IsDone bytes s) (built : Built) → built.image ≡ image_of d.«module» → built.functions ≡ s.spaces.declared → built.bytes ≡ total s.front → IsBuilt bytes built
done_built bytes s d built image functions size = record {
  «module» = d.«module»;
  is = record { is = d.is.is; same = d.is.same; short = d.is.short; functions_are = functions ∙ d.is.functions_are; size_is = size ∙ d.is.size_is };
  image_is = image;
}
