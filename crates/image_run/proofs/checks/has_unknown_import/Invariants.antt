use Rattle.std.proofs.Common.{◌≡◌, drop}
use Rattle.image_run.specs.Checks.{has_unknown_import}
use Rattle.image_run.proofs.checks.has_unknown_import.Given as goal

abbrev pub invariant-loop-import : goal.invariant-loop-import
invariant-loop-import l = has_unknown_import (drop l.import-index l.imports) ≡ has_unknown_import l.imports
