-- A run of an image that is over stays over.
use Rattle.std.proofs.Common.{◌≡◌, ℕ, zero, suc, ◌≤◌, List, subst, sym, refl, ap, ◌∙◌, arith}
use Rattle.wasm_defs.specs.declared.types.ValType.{ValType}
use Rattle.wasm_defs.specs.Values.{Value}
use Rattle.wasm_defs.specs.Host.{Reply}
use Rattle.wasm_defs.specs.ModuleRun.{End, Returns, Traps, Stops, Going, Fails}
use Rattle.image_format.specs.Contents.{Image}
use Rattle.image_format.specs.ImageRun.{Running, Stepping, To, Ended, Faulted, Waiting, Ending, As, Fault, ImageRun, on, next, steps, run_of, image_run}
use Rattle.simulation.specs.SameRuns.{IsOver, own, own_ending, own_run}

-- more steps change no end
abbrev pub Lasts : (ℕ → ImageRun) → Type 0
Lasts image = (few many : ℕ) (e : End) → few ≤ many → IsOver e → (image few).end ≡ As e → (image many).end ≡ As e

on_more : (x : Stepping) (go more : Running → Stepping) (e : End) → IsOver e → ((t : Running) → (run_of (go t)).end ≡ As e → (run_of (more t)).end ≡ As e) → (run_of (on x go)).end ≡ As e → (run_of (on x more)).end ≡ As e
on_more (To t) go more e over then h = then t h
on_more (Ended r end) go more e over then h = h
on_more (Faulted r kind pc) go more e over then h = h
on_more (Waiting r) go more e over then h = h

steps_stay : (i : Image) (few many : ℕ) (r : Running) (e : End) → few ≤ many → IsOver e → (run_of (steps i few r)).end ≡ As e → (run_of (steps i many r)).end ≡ As e
steps_stay i zero many r e le over h = let same : Going ≡ e = cc in absurd (subst IsOver (sym same) over)
steps_stay i (suc few) zero r e le over h = absurd (omega (arith, le))
steps_stay i (suc few) (suc many) r e le over h = on_more (next i r) (steps i few) (steps i many) e over (λ t g. steps_stay i few many t e (omega (arith, le)) over g) h

module _ (i : Image) (offset : ℕ) (results : List ValType) (arguments : List Value) (replies : List Reply) where
  pub image_stays : Lasts (image_run i offset results arguments replies)
  image_stays few many e le over h = steps_stay i few many _ e le over h

-- ---- of an image's globals the first ones alone count

-- what has ended so has ended
pub own_as : (g : ℕ) (x : Ending) (e : End) → own_ending g x ≡ As e → IsOver e → (d : End) × (x ≡ As d) × IsOver d × (own g d ≡ e)
own_as g (As (Returns values memory globals)) e is over = let same : own g (Returns values memory globals) ≡ e = cc in (Returns values memory globals, refl, tt, same)
own_as g (As (Traps kind place memory globals)) e is over = let same : own g (Traps kind place memory globals) ≡ e = cc in (Traps kind place memory globals, refl, tt, same)
own_as g (As (Stops memory)) e is over = let same : own g (Stops memory) ≡ e = cc in (Stops memory, refl, tt, same)
own_as g (As Going) e is over = let same : Going ≡ e = cc in absurd (subst IsOver (sym same) over)
own_as g (As Fails) e is over = let same : Fails ≡ e = cc in absurd (subst IsOver (sym same) over)
own_as g (Fault kind pc) e is over = absurd cc

pub own_lasts : (g : ℕ) (image : ℕ → ImageRun) → Lasts image → Lasts (λ n. own_run g (image n))
own_lasts g image stays few many e le over is =
    let (d, ended, over_too, same) = own_as g (image few).end e is over in
    ap (own_ending g) (stays few many d le over_too ended) ∙ ap As same

pub own_returns : (g : ℕ) (d : End) (values : List Value) (memory globals : List ℕ) → own g d ≡ Returns values memory globals → (m w : List ℕ) × (d ≡ Returns values m w)
own_returns g (Returns others m w) values memory globals is = let same : others ≡ values = cc in (m, w, ap (λ (l : List Value). Returns l m w) same)
own_returns g (Traps kind place m w) values memory globals is = absurd cc
own_returns g (Stops m) values memory globals is = absurd cc
own_returns g Going values memory globals is = absurd cc
own_returns g Fails values memory globals is = absurd cc
