-- The writer's refusals 1 to 8 (01, "Writer's refusals"), each in the words of its row of the table, and the refusal of a call as a function of the
-- picture's numbers, whatever they are.
--     session_of, of_picture   the session that a picture begins, and what it says
--     plane_of                 a picture's plane by its number
--     size_bad ..              the rows of the table, with `differ` and `odd`
--     accepted                 the sizes and kinds that the rows let pass
--     first                    of two refusals the one that is tested first
--     refusal_of, refusal_next   the refusal of a start call and of a next call, 0 where there is none
-- Assumes nothing.
use Rattle.std.specs.Prelude.{Bool, cond, not, ◌&&◌, ◌||◌, ℕ, zero, suc, ◌/◌, ◌%◌, eqb, ltb}
use Rattle.ycbcr_image.specs.declared.DataPlane.{DataPlane}
use Rattle.ycbcr_image.specs.declared.Session.{Session}
use Rattle.ycbcr_image.specs.declared.YCbCrImage.{YCbCrImage}
use Rattle.ycbcr_image.specs.Form.{depth_of, mono, colour}
use Rattle.ycbcr_image.specs.Sizes.{Sequence, sequence_of, padded_row_bytes, padded_height}

-- the depth is that of Y: in monochrome there is no other, and colour that passes 2 has one
abbrev pub session_of : YCbCrImage → Session
session_of i = record { width = i.width; height = i.height; kind = i.kind; depth = i.y.depth }

abbrev pub of_picture : YCbCrImage → Sequence
of_picture i = sequence_of (session_of i)

-- plane 0 is Y, 1 Cb, 2 Cr
abbrev pub plane_of : YCbCrImage → ℕ → DataPlane
plane_of i zero = i.y
plane_of i (suc zero) = i.cb
plane_of i (suc (suc p)) = i.cr

abbrev pub differ : ℕ → ℕ → Bool
differ a b = not (eqb a b)

abbrev pub odd : ℕ → Bool
odd n = differ (n % 2) 0

-- 1: width or height is 0 or over 16,384
unfoldable pub size_bad : Sequence → Bool
size_bad q = (eqb q.width 0 || ltb 16384 q.width) || (eqb q.height 0 || ltb 16384 q.height)

-- 2: colour and the three depths differ
unfoldable pub depths_bad : YCbCrImage → Bool
depths_bad i = colour (of_picture i).form && (differ (depth_of i.y.depth) (depth_of i.cb.depth) || differ (depth_of i.y.depth) (depth_of i.cr.depth))

-- 3: colour, 12 bits, width not a multiple of 4
unfoldable pub four_bad : Sequence → Bool
four_bad q = colour q.form && (eqb q.form.depth 12 && differ (q.width % 4) 0)

-- 4: width odd, unless mono 8
unfoldable pub odd_bad : Sequence → Bool
odd_bad q = odd q.width && not (mono q.form && eqb q.form.depth 8)

-- 5: colour and height odd
unfoldable pub height_bad : Sequence → Bool
height_bad q = colour q.form && odd q.height

-- 6: width, height, colour or depth is not the session's; s is the session
unfoldable pub session_bad : Sequence → Sequence → Bool
session_bad s q =
    (differ q.width s.width || differ q.height s.height) || (differ q.form.chroma s.form.chroma || differ q.form.depth s.form.depth)

-- the sizes and kinds that 1, 3, 4 and 5 let pass: those that a sequence parameter set may say
unfoldable pub accepted : Sequence → Bool
accepted q = not (size_bad q || (four_bad q || (odd_bad q || height_bad q)))

-- 7: a plane's stride is below its padded row's bytes
unfoldable pub stride_bad : Sequence → ℕ → DataPlane → Bool
stride_bad q p a = ltb a.stride (padded_row_bytes q p)

-- 8: a plane has fewer whole rows of `stride` bytes than its padded height
unfoldable pub rows_bad : Sequence → ℕ → DataPlane → Bool
rows_bad q p a = ltb (a.len / a.stride) (padded_height q p)

-- 1 to 5, in this order
unfoldable pub shape_refusal : YCbCrImage → ℕ
shape_refusal i =
    cond (size_bad (of_picture i)) 1
    (cond (depths_bad i) 2
    (cond (four_bad (of_picture i)) 3
    (cond (odd_bad (of_picture i)) 4
    (cond (height_bad (of_picture i)) 5
    0))))

-- 7 and 8 of one plane, in this order
unfoldable pub plane_refusal : Sequence → ℕ → DataPlane → ℕ
plane_refusal q p a =
    cond (stride_bad q p a) 7
    (cond (rows_bad q p a) 8
    0)

-- the refusal n, or where it is none the one that is tested later
unfoldable pub first : ℕ → ℕ → ℕ
first n later = cond (eqb n 0) later n

-- 7 and 8 for Cb, then Cr
unfoldable pub chroma_refusal : YCbCrImage → ℕ
chroma_refusal i =
    first (plane_refusal (of_picture i) 1 i.cb)
    (plane_refusal (of_picture i) 2 i.cr)

-- 7 and 8 for Y, then Cb and Cr, which monochrome has not
unfoldable pub planes_refusal : YCbCrImage → ℕ
planes_refusal i =
    first (plane_refusal (of_picture i) 0 i.y)
    (cond (mono (of_picture i).form) 0
    (chroma_refusal i))

-- a start call has no 6
unfoldable pub refusal_of : YCbCrImage → ℕ
refusal_of i = first (shape_refusal i) (planes_refusal i)

-- 6 stands between 5 and 7; s is the session
unfoldable pub refusal_next : Sequence → YCbCrImage → ℕ
refusal_next s i = first (shape_refusal i) (cond (session_bad s (of_picture i)) 6 (planes_refusal i))
