-- What is said of several modules.
use Rattle.std.proofs.Common.{◌≡◌, ◌⊎◌, inl, inr, ℕ, suc, Bool, false, List, [], ◌∷◌, ◌++◌, map, length, drop, Option, Some, Result, Ok, Err, refl, sym, ap, ◌∙◌, arith}
use Rattle.std.specs.Prelude.{IfOk, codes, String, string_bytes}
use Rattle.std.specs.Fmt.{decimal}
use Rattle.std.specs.Global.{Global}
use Rattle.std.specs.Io.KnownBytes.{IsAtEnd}
use Rattle.std.specs.declared.alloc.AllocError.{AllocError}
use Rattle.wasm_defs.specs.declared.fault.Refusal.{Refusal}
use Rattle.wasm_defs.specs.Faults.{Rejected}
use Rattle.module_stream.specs.declared.built.Checked.{Checked}
use Rattle.command_words.specs.declared.command.Command.TheVariants.{Many}
use Rattle.command_words.specs.declared.command.Options.{Options}
use Rattle.many_streams.specs.declared.member.EachChecked.{EachChecked}
use Rattle.many_streams.specs.declared.member.EachChecked.TheVariants as each
use Rattle.many_streams.specs.declared.streams.ManyStop.TheVariants as stop
use Rattle.many_streams.specs.Frames.{IsBadFrame, IsCutOff}
use Rattle.many_streams.specs.Members.{IsEachChecked}
use Rattle.many_streams.specs.Many.{AreEach, ChecksMany}
use Rattle.stream_compile.specs.declared.output.Output.{Output}
use Rattle.stream_compile.specs.Outputs.{view}
use Rattle.stream_compile.specs.Texts.{TellsCheck, OfModule, AreChecked, OfFrames, ComesTo, read_fault, kind_name, bad_frame, many_line, many_text, many_status, said, told_many}
use Rattle.stream_compile.proofs.Answering.{valid_outcome}
use Rattle.stream_compile.proofs.Joins.{five}

-- ---- their lines

-- the lines of those from an index on, and the status
abbrev pub lines_from : ℕ → List EachChecked → List ℕ
lines_from k each = many_text k (map said (drop k each))

abbrev pub status_from : ℕ → List EachChecked → ℕ
status_from k list = many_status (map said (drop k list))

-- a text that was made is the one that is said
pub so_said : (r : Result (String Global) AllocError) (text other : List ℕ) → IfOk r (λ s. string_bytes s ≡ text) → text ≡ other → IfOk r (λ s. string_bytes s ≡ other)
so_said (Ok s) text other made same = made ∙ same
so_said (Err x) text other made same = tt

pub valid_line : (index : ℕ) (c : Checked) (e : EachChecked) → e ≡ each.Valid c
    → decimal index ++ (codes " ok " ++ (decimal c.functions ++ (codes " functions " ++ (decimal c.bytes ++ codes " bytes\n")))) ≡ many_line index (said e)
valid_line index c e is =
    ap (λ (l : List ℕ). decimal index ++ (codes " " ++ l)) (five (codes "ok ") (decimal c.functions) (codes " functions ") (decimal c.bytes) (codes " bytes\n")) ∙ ap (λ (x : EachChecked). many_line index (said x)) (sym is)

pub refused_line : (index : ℕ) (r : Refusal) (e : EachChecked) (kind : List ℕ) → e ≡ each.Refused r → kind ≡ kind_name r.kind
    → decimal index ++ (codes " refused " ++ (kind ++ (codes " at " ++ (decimal r.offset ++ codes "\n")))) ≡ many_line index (said e)
refused_line index r e kind is named =
    ap (λ (k : List ℕ). decimal index ++ (codes " refused " ++ (k ++ (codes " at " ++ (decimal r.offset ++ codes "\n"))))) named
    ∙ (ap (λ (l : List ℕ). decimal index ++ (codes " " ++ l)) (five (codes "refused ") (kind_name r.kind) (codes " at ") (decimal r.offset) (codes "\n")) ∙ ap (λ (x : EachChecked). many_line index (said x)) (sym is))

-- ---- what they are

each_outcome : (bytes : List ℕ) (e : EachChecked) → IsEachChecked bytes e → OfModule TellsCheck false bytes (said e)
each_outcome bytes (each.Valid c) is = valid_outcome bytes c (said (each.Valid c)) is refl
each_outcome bytes (each.Refused r) is = (Rejected r, is, refl)

checked_all : (list : List (List ℕ)) (es : List EachChecked) → AreEach IsEachChecked list es → AreChecked list (map said es)
checked_all [] [] are = tt
checked_all [] (e ∷ es) are = absurd (let n = are.0 in omega arith)
checked_all (b ∷ list) [] are = absurd (let n = are.0 in omega arith)
checked_all (b ∷ list) (e ∷ es) are = (each_outcome b e (are.1 0 b e refl refl), checked_all list es (let n = are.0 in omega arith, λ i bytes x at is. are.1 (suc i) bytes x at is))

module _ (options : Options) (failed : Bool) (left rest : Option (List ℕ)) where
  pub told_comes : (r : Result Output AllocError) (es : List EachChecked) → ChecksMany failed left rest (Ok es) → IfOk r (λ a. view a ≡ told_many (map said es)) → IfOk r (λ o. ComesTo (Some (Many options)) failed left rest (view o))
  told_comes (Ok a) es (calm, bytes, is, end, list, frames, are) e = rw calm (bytes, is, inr (inr (end, (list, frames, map said es, checked_all list es are, e))))
  told_comes (Err x) es h e = tt

  pub frame_comes : (r : Result Output AllocError) (at : ℕ) → ChecksMany failed left rest (Err (stop.Frame at)) → IfOk r (λ a. view a ≡ bad_frame at) → IfOk r (λ o. ComesTo (Some (Many options)) failed left rest (view o))
  frame_comes (Ok a) at (calm, bytes, is, bad) e = rw calm (bytes, is, of bad)
    where
      of : (IsBadFrame bytes at ⊎ (IsAtEnd rest × IsCutOff bytes × (at ≡ length bytes)))
          → ((n : ℕ) × IsBadFrame bytes n × (view a ≡ bad_frame n)) ⊎ (IsAtEnd rest × IsCutOff bytes × (view a ≡ bad_frame (length bytes))) ⊎ (IsAtEnd rest × OfFrames bytes (view a))
      of (inl bad) = inl (at, bad, e)
      of (inr (end, cut, same)) = inr (inl (end, cut, e ∙ ap bad_frame same))
  frame_comes (Err x) at h e = tt

  pub fault_comes : (r : Result Output AllocError) → ChecksMany failed left rest (Err stop.ReadFault) → IfOk r (λ a. view a ≡ read_fault) → IfOk r (λ o. ComesTo (Some (Many options)) failed left rest (view o))
  fault_comes (Ok a) (fails, bytes, is, front) e = rw fails (bytes, is, front, e)
  fault_comes (Err x) h e = tt
