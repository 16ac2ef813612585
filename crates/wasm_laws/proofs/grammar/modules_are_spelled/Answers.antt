use Rattle.std.proofs.Common.{List, sym, subst}
use Rattle.wasm_defs.specs.Outside.{Part}
use Rattle.wasm_laws.specs.Sections.{IsReadAs}
use Rattle.wasm_laws.proofs.Bytes.{each_byte}
use Rattle.wasm_laws.proofs.Described.{whole_is_described, module_is_described}
use Rattle.wasm_laws.proofs.WholeModules.{described_is_whole}
use Rattle.wasm_laws.proofs.grammar.modules_are_spelled.Goals as goal

pub returns : goal.returns
returns c = record {
  runs = λ bytes parts fits. (
    λ w. whole_is_described bytes parts (each_byte bytes fits) w.0 w.1,
    λ d. subst (λ (l : List Part). IsReadAs l bytes) (sym d.2) (described_is_whole bytes d.0 d.1),
  );
  modules = λ bytes m fits is. module_is_described bytes m (each_byte bytes fits) is;
}
