-- How many bytes loading an image takes.
use Rattle.std.specs.Prelude.{ℕ, ◌+◌, ◌*◌, length}
use Rattle.rv_isa.specs.Steps.{Bytes}
use Rattle.decode_cache.specs.Caching.{entries}
use Rattle.image_format.specs.Contents.{Image}
use Rattle.image_format.specs.Environment.{loaded}
use Rattle.image_format.specs.declared.limits.TheConstants.{PARAMS}
use Rattle.image_run.specs.declared.sizes.TheConstants.{ENTRY_BYTES, VALUE_BYTES}

-- the bytes of all regions
unfoldable pub region_bytes : Bytes → ℕ
region_bytes b = length b.stack + length b.globals + length b.table + length b.memory + length b.passive

-- the regions, the memory up to its cap; the text, four bytes a word; what the machine keeps of the words that it has decoded; and the
-- arguments of an import
unfoldable pub bytes_wanted : Image → ℕ
bytes_wanted i = region_bytes (loaded i) + 4 * length i.text + (ENTRY_BYTES * entries + VALUE_BYTES * PARAMS)
