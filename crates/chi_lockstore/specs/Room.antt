-- the room that a store's allocator takes
use Rattle.std.specs.Prelude.{◌^◌, ◌<◌}
use Rattle.std.specs.Mem.{type_size}
use denote.RattleType.{RattleType}

-- a value of the type takes fewer than 2 ^ 62 bytes
abbrev pub IsSmall : RattleType → Type 0
IsSmall A = type_size A < 2 ^ 62
