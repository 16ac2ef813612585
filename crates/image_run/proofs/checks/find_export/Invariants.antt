use Rattle.std.proofs.Common.{◌≡◌, drop}
use Rattle.image_run.specs.Checks.{export_named}
use Rattle.image_run.proofs.checks.find_export.Given as goal

abbrev pub invariant-loop-export : goal.invariant-loop-export
invariant-loop-export l = export_named l.name (drop l.export-index l.export-items) ≡ export_named l.name l.image.exports
