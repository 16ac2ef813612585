-- What is filled and copied is written over the memory.
use Rattle.std.proofs.Common.{◌≡◌, ℕ, zero, suc, ◌%◌, ◌<◌, Bool, true, false, if◌then◌else◌, List, take, drop, replicate, Option, None, Some, refl, subst, arith}
use Rattle.std.proofs.lemmas.List.Elements.{All-nil, All-cons, All-take, All-drop}
use Rattle.rv_isa.specs.Runs.{AreBytes}
use Rattle.wasm_defs.specs.Memory.{bytes_at, filled_at, written_with, copied_at}
use Rattle.simulation.specs.StoreLaws.{WrittenOver}

are_same : (n x : ℕ) → x < 256 → AreBytes (replicate n x)
are_same zero x small = All-nil (λ (b : ℕ). b < 256)
are_same (suc n) x small = All-cons (λ (b : ℕ). b < 256) x (replicate n x) small (are_same n x small)

pub filled_over : (old new : List ℕ) (d v n : ℕ) → filled_at old d v n ≡ Some new → WrittenOver old new
filled_over old new d v n e = record { place = d; bytes = replicate n (v % 256); sound = are_same n (v % 256) (omega arith); is = e }

part_sound : (source bytes : List ℕ) (from n : ℕ) (t : Bool) → AreBytes source → (if t then Some (take n (drop from source)) else None) ≡ Some bytes → AreBytes bytes
part_sound source bytes from n true sound e =
    let same : take n (drop from source) ≡ bytes = cc in
    subst AreBytes same (All-take (λ (b : ℕ). b < 256) n (drop from source) (All-drop (λ (b : ℕ). b < 256) from source sound))
part_sound source bytes from n false sound e = absurd cc

over_by : (source old new : List ℕ) (d from n : ℕ) (o : Option (List ℕ)) → AreBytes source → bytes_at source from n ≡ o → written_with old d o ≡ Some new → WrittenOver old new
over_by source old new d from n None sound is e = absurd cc
over_by source old new d from n (Some bytes) sound is e = record { place = d; bytes = bytes; sound = part_sound source bytes from n _ sound is; is = e }

pub copied_over : (source old new : List ℕ) (d from n : ℕ) → AreBytes source → copied_at source old d from n ≡ Some new → WrittenOver old new
copied_over source old new d from n sound e = over_by source old new d from n (bytes_at source from n) sound refl e
