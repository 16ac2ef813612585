-- Limits of this implementation (WebAssembly Core 1.0, appendix "Implementation Limitations"), and two bounds of 1.0.
use Rattle.std.specs.Prelude.{ℕ}

-- bytes of a module
abbrev pub max_module : ℕ
max_module = 67108864

-- bytes of a body
abbrev pub max_body : ℕ
max_body = 1048576

-- types; imports; imports and functions together; globals; exports; element segments; data segments
abbrev pub max_entries : ℕ
max_entries = 100000

-- parameters of a type
abbrev pub max_params : ℕ
max_params = 1000

-- results of a type
abbrev pub max_results : ℕ
max_results = 1000

-- declared locals of a body, its parameters not counted
abbrev pub max_locals : ℕ
max_locals = 50000

-- bytes of a name
abbrev pub max_name : ℕ
max_name = 100000

-- the minimum of a table, in rows
abbrev pub max_table : ℕ
max_table = 100000

-- the minimum of a memory, in pages
abbrev pub max_pages : ℕ
max_pages = 4096

-- bytes of a compiled module's text: a region of the machine holds them
abbrev pub max_text : ℕ
max_text = 268435456

-- the greatest maximum that a memory may have, in pages (3.2.4)
abbrev pub top_pages : ℕ
top_pages = 65536

-- the greatest maximum that a table may have: any u32
abbrev pub top_rows : ℕ
top_rows = 4294967295
