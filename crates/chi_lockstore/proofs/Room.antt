-- the cell of a store whose allocator is small fits in memory
use Rattle.std.proofs.Common.{ℕ, ◌+◌, ◌^◌, ◌<◌, max, sym, subst, arith}
use Rattle.std.specs.Mem.{type_size}
use denote.RattleType.{RattleType}
use denote.Param.{layout}
use mir.Syntax.{Width, w8, w16, w32, w64, w128}
use mir.Val.{bytes}
use prog.Align.{align-bytes, align_w}
use prog.Memory.{align, up}
use Rattle.chi_lockstore.specs.Room.{IsSmall}

-- how a cell is aligned whose allocator is aligned so
abbrev pub cell_align : ℕ → ℕ
cell_align a = max 8 (max 8 (max 8 (max 8 (max 8 (max a 1)))))

-- how many bytes it takes, of an allocator of so many bytes
abbrev pub cell_size : ℕ → ℕ → ℕ
cell_size a s = up (max (cell_align a) 1) (up (cell_align a) 0 + up (cell_align a) (up a 64 + s))

-- every alignment is one of five
fits_at : (w : Width) (s : ℕ) → s < 2 ^ 62 → cell_size (bytes w) s < 2 ^ 63
fits_at w8 s small = omega arith
fits_at w16 s small = omega arith
fits_at w32 s small = omega arith
fits_at w64 s small = omega arith
fits_at w128 s small = omega arith

-- the cell takes fewer than 2 ^ 63 bytes
pub cell_fits : (A : RattleType) → IsSmall A → cell_size (align (layout A)) (type_size A) < 2 ^ 63
cell_fits A small = subst (λ (a : ℕ). cell_size a (type_size A) < 2 ^ 63) (sym (align-bytes (layout A))) (fits_at (align_w (layout A)) (type_size A) small)
