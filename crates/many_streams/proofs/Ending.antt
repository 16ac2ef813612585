-- The input ends, or it goes on where it must not.
use Rattle.std.proofs.Common.{◌≡◌, ◌≢◌, ◌<◌, ◌+◌, ◌⊎◌, inl, inr, ℕ, Some, slice_get, List, [], ◌∷◌, ◌++◌, length, sym, refl, ap, ◌∙◌, subst, arith, append_assoc, length-append}
use mathlib.Core.Logic.{dite}
use native.Mathlib.Decide.{ℕ_discrete}
use Rattle.std.proofs.lemmas.List.{take_at}
use Rattle.many_streams.specs.declared.limits.TheConstants.{MAX_INPUT}
use Rattle.many_streams.specs.declared.reader.Next.{Next}
use Rattle.many_streams.specs.declared.reader.Next.TheVariants as next
use Rattle.many_streams.specs.Frames.{Chunk, u32, AreWhole, IsError, IsBadFrame, IsCut, IsCutOff, Frames}
use Rattle.many_streams.specs.Reading.{Progress, AreOf, IsReading, StandsAt, AreAllSet}
use Rattle.many_streams.proofs.Errors.{error_refused}

pub cut : (bytes : List ℕ) (of : ℕ → List ℕ) (f : Progress) → IsReading bytes of f → f.next ≢ next.Nothing → length f.number < 4 → IsCut bytes
cut bytes of f r other short = on f.next other r.stands
  where
    on : (p : Next) → p ≢ next.Nothing → StandsAt p f bytes of → IsCut bytes
    on next.Count other (are, known, flags, each, none) = let e = ap length are in inl (omega arith)
    on next.Index other (cs, among, are, each) =
        inr (record { count = f.modules; chunks = cs; rest = f.number; begins = record { formed = among.formed; are = are }; owes = among.owes; cut = inl short })
    on (next.Length m) other (cs, among, going, are, each) =
        inr (record {
          count =
              f.modules;
          chunks = cs;
          rest = u32 m ++ f.number;
          begins = record { formed = among.formed; are = are };
          owes = among.owes;
          cut = inr (m, f.number, going, refl, inl short);
        })
    on (next.Bytes m left) other (cs, came, among, going, none, owed, fits, are, each) =
        inr (record {
          count = f.modules;
          chunks = cs;
          rest = u32 m ++ (u32 (length came + left) ++ came);
          begins = record { formed = among.formed; are = are };
          owes = among.owes;
          cut = inr (m, u32 (length came + left) ++ came, going, refl, inr (length came + left, came, fits, omega arith, refl));
        })
    on next.Nothing other stands = absurd (other refl)

pub ends_cut_off : (bytes : List ℕ) (of : ℕ → List ℕ) (f : Progress) → IsReading bytes of f → f.next ≢ next.Nothing → length f.number < 4
    → IsCutOff bytes × (f.at ≡ length bytes)
ends_cut_off bytes of f r other short = (record { short = r.few; cut = cut bytes of f r other short }, r.at)

-- all bytes of the chunks came
whole : (bytes : List ℕ) (of : ℕ → List ℕ) (f : Progress) → f.next ≡ next.Nothing → IsReading bytes of f
    → (cs : List Chunk) × AreWhole bytes f.modules cs × AreOf of cs
whole bytes of f at r = on (subst (λ (p : Next). StandsAt p f bytes of) at r.stands)
  where
    on : StandsAt next.Nothing f bytes of → (cs : List Chunk) × AreWhole bytes f.modules cs × AreOf of cs
    on (cs, formed, ended, set, none, are, each) = (cs, record { formed = formed; ended = ended; are = are }, each)

-- and all flags are set
pub all_set : (bytes : List ℕ) (of : ℕ → List ℕ) (f : Progress) → f.next ≡ next.Nothing → IsReading bytes of f → AreAllSet f.modules f.ended
all_set bytes of f at r = on (subst (λ (p : Next). StandsAt p f bytes of) at r.stands)
  where
    on : StandsAt next.Nothing f bytes of → AreAllSet f.modules f.ended
    on (cs, formed, ended, set, none, are, each) = set

pub whole_frames : (bytes : List ℕ) (of : ℕ → List ℕ) (f : Progress) (list : List (List ℕ)) → f.next ≡ next.Nothing → IsReading bytes of f
    → length list ≡ f.modules → ((i : ℕ) → i < f.modules → slice_get list i ≡ Some (of i)) → Frames bytes list
whole_frames bytes of f list at r count all =
    let w = whole bytes of f at r in record {
      count = f.modules;
      chunks = w.0;
      whole = w.1;
      short = r.few;
      modules = count;
      each = λ i in'. all i in'
          ∙ ap Some (w.2 i);
    }

-- ---- a byte too many

too_long : (bytes piece more : List ℕ) → length bytes ≡ MAX_INPUT → 0 < length piece
    → IsCut bytes ⊎ ((count : ℕ) × (cs : List Chunk) × AreWhole bytes count cs) → IsBadFrame (bytes ++ (piece ++ more)) MAX_INPUT
too_long bytes piece more full some right = inr (record {
  place = refl;
  long = let a = length-append bytes (piece ++ more) in let b = length-append piece more in omega arith;
  right = subst (λ (l : List ℕ). IsCut l ⊎ ((count : ℕ) × (cs : List Chunk) × AreWhole l count cs)) (sym (take_at bytes (piece ++ more) MAX_INPUT full)) right;
})

pub trailing : (bytes : List ℕ) (of : ℕ → List ℕ) (f : Progress) (piece more : List ℕ) → f.next ≡ next.Nothing → IsReading bytes of f → 0 < length piece
    → IsBadFrame (bytes ++ (piece ++ more)) f.at
trailing bytes of f [] more at r some = absurd (omega arith)
trailing bytes of f (b ∷ piece) more at r some = dite (ℕ_discrete (length bytes) MAX_INPUT) all fewer
  where
    w : (cs : List Chunk) × AreWhole bytes f.modules cs × AreOf of cs
    w = whole bytes of f at r

    all : length bytes ≡ MAX_INPUT → IsBadFrame (bytes ++ (b ∷ piece ++ more)) f.at
    all full = subst (IsBadFrame (bytes ++ (b ∷ piece ++ more))) (sym (r.at ∙ full)) (too_long bytes (b ∷ piece) more full some (inr (f.modules, w.0, w.1)))

    fewer : length bytes ≢ MAX_INPUT → IsBadFrame (bytes ++ (b ∷ piece ++ more)) f.at
    fewer other =
        let few = r.few in let sum = length-append bytes (b ∷ []) in
        let e : IsError (bytes ++ b ∷ []) f.at = inr (inr (record {
          count = f.modules;
          chunks = w.0;
          byte = b;
          more = [];
          begins = record { formed = w.1.formed; are = ap (λ (l : List ℕ). l ++ b ∷ []) w.1.are };
          ended = w.1.ended;
          place = r.at ∙ ap length w.1.are;
        })) in
        subst (λ (l : List ℕ). IsBadFrame l f.at) (append_assoc bytes (b ∷ []) (piece ++ more)) (error_refused (bytes ++ b ∷ []) f.at (piece ++ more) (omega arith) e)

pub cut_too_long : (bytes : List ℕ) (of : ℕ → List ℕ) (f : Progress) (piece more : List ℕ) → f.next ≢ next.Nothing → length f.number < 4
    → IsReading bytes of f → 0 < length piece → f.at ≡ MAX_INPUT → IsBadFrame (bytes ++ (piece ++ more)) f.at
cut_too_long bytes of f piece more other short r some full =
    subst (IsBadFrame (bytes ++ (piece ++ more))) (sym full) (too_long bytes piece more (sym r.at ∙ full) some (inl (cut bytes of f r other short)))
