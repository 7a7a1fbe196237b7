-- The calls worked out on small frames: what they answer and write, and which records are sound.
-- Assumes nothing.
use mathlib.Core.Path.{◌≡◌, refl}
use mathlib.Core.Bool.{Bool, true, false}
use mathlib.Core.List.{List, [], ◌∷◌, ◌++◌, map}
use Prim.Native.Nat.{ℕ, ◌-◌}
use lib.ListN.{set, replicate, take}
use Rattle.std.proofs.Common.{Ok, Err}
use Rattle.frame.specs.Words.{start_place, end_place, parent_place, name_place, size_place}
use Rattle.frame.specs.Kinds.{u16, u32, u8}
use Rattle.frame.specs.Plain.{Answer, fed, counted, refused}
use Rattle.causes.specs.declared.Cause.TheVariants as C
use Rattle.label.specs.declared.Session.{Session}
use Rattle.label.specs.Sound.{sound}
use Rattle.causes.specs.Cases.{cause_number}
use Rattle.label.specs.Cases.{open_number, feed_answer, read_answer}
use Rattle.label.specs.Opening.{open_record, blank}
use Rattle.label.specs.WholeFrame.{chop, block_lines, blocks}
use Rattle.label.proofs.CallFunctions.{FeedResult, ReadResult, do_open, do_feed, do_widen, do_read, do_sizes, do_frame}
use Rattle.label.proofs.Worked.{computed, frame, cross, memory, line, whole, f, begun, one, two, three, junk, wide, wide_words, put}
use Rattle.label.proofs.Worked.{ones, bud, held, row, sized, together}

-- ---- the documents' numbers and values

numbers_right : map cause_number (C.Rank ∷ C.StructureLength ∷ C.ZeroDimension ∷ C.TooLarge ∷ C.Memory ∷ C.Unsound ∷ C.Lines ∷ C.Cells
    ∷ C.Length ∷ C.Kind ∷ C.Lopsided ∷ C.NotWider ∷ []) ≡ 1 ∷ 2 ∷ 3 ∷ 4 ∷ 5 ∷ 6 ∷ 7 ∷ 8 ∷ 9 ∷ 10 ∷ 12 ∷ 19 ∷ []
numbers_right = refl

openings_right : map open_number (Ok blank ∷ Err C.Memory ∷ []) ≡ 0 ∷ 5 ∷ []
openings_right = refl

-- a feed's lines fed and figures; a reading's n and figures
cases_right : feed_answer (Ok (record { lines = 3; figures = f 5 4 7 })) ∷ feed_answer (Err C.Lines)
    ∷ read_answer (Ok (record { n = 1; figures = f 5 4 7 })) ∷ read_answer (Err C.Kind) ∷ []
    ≡ fed 3 (f 5 4 7) ∷ refused 7 ∷ counted 1 (f 5 4 7) ∷ refused 10 ∷ []
cases_right = refl

-- ---- document 01's frame 1, fed line by line

opens_right : begun
    ≡ record {
      number = 0;
      session = record {
        rank = 2;
        shape = 3 ∷ 3 ∷ 0 ∷ 0 ∷ [];
        structure = cross ++ replicate 72 0;
        fed = 0;
        figures = f 0 0 0;
      };
      words = 0 ∷ replicate 33 7;
    }
unfolding begun computed
opens_right = refl

answers_right : one.said ∷ two.said ∷ three.said ∷ [] ≡ fed 1 (f 2 0 2) ∷ fed 2 (f 4 2 4) ∷ fed 3 (f 5 4 7) ∷ []
unfolding begun one two three computed
answers_right = refl

-- four line starts, then the words of each run; no name is written. At a root the size is its group's count of cells, elsewhere it is free
words_right : three.words
    ≡ 0 ∷ 2 ∷ 4 ∷ 5 ∷ row 0 1 0 7 7 ++ row 2 3 0 7 0 ++ row 0 1 0 7 0 ++ row 2 3 0 7 0 ++ row 0 3 0 7 0 ++ replicate 5 7
unfolding begun one two three computed
words_right = refl

-- a structure change: two runs that touch at a corner become one group, and the record has the new structure
widens_right : do_widen bud.session bud.words ones ≡ record {
  said = fed 2 (f 2 1 2);
  session = record {
    rank = 2;
    shape = 3 ∷ 3 ∷ 0 ∷ 0 ∷ [];
    structure = ones ++ replicate 72 0;
    fed = 2;
    figures = f 2 1 2;
  };
  words = 0 ∷ 1 ∷ 2 ∷ 7 ∷ row 0 1 0 7 2 ++ row 1 2 0 7 0 ++ replicate 20 7;
}
unfolding begun bud computed
widens_right = refl

-- the same structure again, on records of other origin: the groups and the sizes that they held are dropped
drops_right : map {B = Answer × List ℕ} (λ (d : FeedResult). (d.said, d.words))
    (do_widen (held 2 4 3 4) together cross ∷ do_widen two.session (sized 3 1) cross ∷ [])
    ≡ replicate 2 (
      fed 2 (f 4 2 4),
      0 ∷ 2 ∷ 4 ∷ 7 ∷ row 0 1 0 7 2 ++ row 2 3 1 7 2 ++ row 0 1 0 7 0 ++ row 2 3 1 7 0 ++ replicate 10 7,
    )
unfolding begun one two computed
drops_right = refl

-- after two lines two groups; each run's name becomes its number, and unfed cells get 0
reading_right : do_read u8 two.session two.words junk ≡ record {
  said = counted 2 (f 4 2 4);
  words = 0 ∷ 2 ∷ 4 ∷ 7 ∷ row 0 1 0 1 2 ++ row 2 3 1 2 2 ++ row 0 1 0 1 0 ++ row 2 3 1 2 0 ++ replicate 10 7;
  out = 1 ∷ 0 ∷ 2 ∷ 1 ∷ 0 ∷ 2 ∷ 0 ∷ 0 ∷ 0 ∷ [];
}
unfolding begun one two computed
reading_right = refl

-- after each line; and of a record of other origin, what its roots' words hold
sizes_right : (do_sizes one.session one.words (5 ∷ 5 ∷ [])).out
    ∷ (do_sizes two.session two.words (5 ∷ 5 ∷ [])).out
    ∷ (do_sizes three.session three.words (5 ∷ [])).out
    ∷ (do_sizes two.session (sized 3 1) (5 ∷ 5 ∷ [])).out
    ∷ []
    ≡ (1 ∷ 1 ∷ []) ∷ (2 ∷ 2 ∷ []) ∷ (7 ∷ []) ∷ (3 ∷ 1 ∷ []) ∷ []
unfolding begun one two three computed
sizes_right = refl

whole_right : do_frame u16 frame cross memory (line ++ line ++ whole) junk ≡ record {
  said = counted 1 (f 5 4 7);
  words = 0 ∷ 2 ∷ 4 ∷ 5 ∷ row 0 1 0 1 7 ++ row 2 3 0 1 0 ++ row 0 1 0 1 0 ++ row 2 3 0 1 0 ++ row 0 3 0 1 0 ++ replicate 5 7;
  out = 1 ∷ 0 ∷ 1 ∷ 1 ∷ 0 ∷ 1 ∷ 1 ∷ 1 ∷ 1 ∷ [];
}
unfolding computed
whole_right = refl

refusals_right :
    -- a start below the one before: the record is unsound, in every call
    (do_feed two.session (put 1 5) 1 whole).said
    ∷ (do_read u8 two.session (put 1 5) junk).said
    ∷ (do_sizes two.session (put 1 5) (5 ∷ 5 ∷ [])).said
    ∷ (do_widen two.session (put 1 5) (take 8 ones)).said
    -- no line is left, and the cells are too few besides; one is left, and two are fed
    ∷ (do_feed three.session three.words 1 []).said
    ∷ (do_feed two.session two.words 2 (line ++ line)).said
    -- two cells for a line of three
    ∷ (do_feed two.session two.words 1 (take 2 line)).said
    -- an output of eight, sizes for three numbers where there are two
    ∷ (do_read u8 two.session two.words (replicate 8 5)).said
    ∷ (do_sizes two.session two.words (replicate 3 5)).said
    -- a new structure of eight bytes, with one arm missing; with an arm more and another lost; without the arms to the sides; without the
    -- centre
    ∷ (do_widen two.session two.words (take 8 (set cross 7 0))).said
    ∷ (do_widen two.session two.words (set (set cross 7 0) 0 1)).said
    ∷ (do_widen two.session two.words (set (set ones 3 0) 5 0)).said
    ∷ (do_widen two.session two.words (set cross 4 0)).said
    -- 256 groups
    ∷ (do_read u8 wide wide_words (replicate 256 5)).said
    -- of a whole frame: a structure with one arm missing, and 33 words; 33 words; eight cells; an output of eight
    ∷ (do_frame u8 frame (set cross 7 0) (replicate 33 7) (line ++ line ++ whole) junk).said
    ∷ (do_frame u8 frame cross (replicate 33 7) (line ++ line ++ whole) junk).said
    ∷ (do_frame u8 frame cross memory (line ++ line ++ take 2 whole) (replicate 8 5)).said
    ∷ (do_frame u8 frame cross memory (line ++ line ++ whole) (replicate 8 5)).said
    ∷ []
    ≡ map refused (6 ∷ 6 ∷ 6 ∷ 6 ∷ 7 ∷ 7 ∷ 8 ∷ 9 ∷ 9 ∷ 2 ∷ 12 ∷ 19 ∷ 19 ∷ 10 ∷ 12 ∷ 5 ∷ 8 ∷ 9 ∷ [])
unfolding begun one two three computed
refusals_right = refl

-- ---- soundness

-- a frame of one line of three cells, with the left byte zero, fed; it has r runs, of c cells together
abbrev apart : ℕ → ℕ → Session
apart r c = record { rank = 1; shape = 3 ∷ 0 ∷ 0 ∷ 0 ∷ []; structure = replicate 81 0; fed = 1; figures = f r 0 c }

-- the record after two lines, with another structure
abbrev structured : List ℕ → Session
structured bytes =
    record {
      rank = 2;
      shape = 3 ∷ 3 ∷ 0 ∷ 0 ∷ [];
      structure = bytes ++ replicate 72 0;
      fed = 2;
      figures = f 4 2 4;
    }

-- each breaks a clause of document 01's "Unsound, exactly" or of document 02, in their order, and no other unless it is said
unsound : List (Session × List ℕ)
unsound =
    -- rank 0, rank 5
    (blank, replicate 34 0)
    ∷ (record { rank = 5; shape = replicate 4 1; structure = replicate 81 0; fed = 0; figures = f 0 0 0 }, replicate 34 0)
    -- a leading dimension is 0
    ∷ (open_record (0 ∷ 3 ∷ []) cross, replicate 34 0)
    -- w and L at their limits, L × w one above
    ∷ (open_record (2147483647 ∷ []) (replicate 3 0), replicate 10737418237 0)
    ∷ (open_record (4294967293 ∷ 0 ∷ []) cross, replicate 4294967294 0)
    ∷ (open_record (2147483647 ∷ 2 ∷ []) cross, replicate 12884901883 0)
    -- document 02's: a lopsided structure
    ∷ (structured (set cross 7 0), two.words)
    -- 33 words
    ∷ (two.session, take 33 two.words)
    -- four lines fed
    ∷ (held 4 0 0 0, replicate 34 0)
    -- word 0 is 1
    ∷ (two.session, put 0 1)
    -- line 2 starts below line 1
    ∷ (held 2 1 0 1, set (put 2 1) (size_place 3 0) 1)
    -- word 2 is not the count of runs
    ∷ (two.session, put 2 3)
    ∷ (held 2 3 1 3, sized 2 1)
    -- three runs in a line: that many cannot stand in order either
    ∷ (two.session, put 1 3)
    -- run 1 is [2, 2); it is [2, 4)
    ∷ (held 2 4 2 3, set (sized 2 1) (end_place 3 1) 2)
    ∷ (held 2 4 2 5, set (sized 2 3) (end_place 3 1) 4)
    -- runs 0 and 1 are [0, 2) and [1, 3); [2, 3) and [0, 1); [0, 2) and [2, 3)
    ∷ (held 2 4 2 6, set (set (sized 3 3) (end_place 3 0) 2) (start_place 3 1) 1)
    ∷ (
      two.session,
      set (set (set (put (start_place 3 0) 2) (end_place 3 0) 3) (start_place 3 1) 0) (end_place 3 1) 1,
    )
    ∷ (held 2 4 2 5, set (sized 3 2) (end_place 3 0) 2)
    -- with the left byte zero they are [0, 1) and [1, 3); [0, 1) and [0, 1)
    ∷ (apart 2 3, 0 ∷ 2 ∷ row 0 1 0 7 1 ++ row 1 3 1 7 2 ++ replicate 5 7)
    ∷ (apart 2 2, 0 ∷ 2 ∷ row 0 1 0 7 1 ++ row 0 1 1 7 1 ++ replicate 5 7)
    -- run 0 has parent 1
    ∷ (held 2 4 3 4, set (sized 0 4) (parent_place 3 0) 1)
    -- joins are one too many, one too few
    ∷ (held 2 4 3 4, two.words)
    ∷ (held 2 4 1 4, two.words)
    -- document 02's: the total is one too many, one too few, 2^32 too many; a run is longer than the total says; no line is fed, and there
    -- is no root either
    ∷ (held 2 4 2 5, sized 2 3)
    ∷ (held 2 4 2 3, sized 2 1)
    ∷ (held 2 4 2 4294967300, sized 2147483650 2147483650)
    ∷ (held 3 5 4 7, set three.words (end_place 3 4) 2)
    ∷ (held 0 0 0 1, begun.words)
    -- document 02's: the roots' fifth words are together one too many, one too few, 2^32 too many; with those of the other runs they would
    -- be right
    ∷ (two.session, sized 3 2)
    ∷ (two.session, sized 2 1)
    ∷ (two.session, sized 2147483650 2147483650)
    ∷ (two.session, set (sized 2 1) (size_place 3 2) 1)
    ∷ []

-- sound records: those after an opening and after feeds, and others
accepted : List (Session × List ℕ)
accepted =
    (begun.session, begun.words)
    ∷ (one.session, one.words)
    ∷ (two.session, two.words)
    ∷ (three.session, three.words)
    -- a width of 0
    ∷ (open_record (2 ∷ 0 ∷ []) cross, 0 ∷ 7 ∷ 7 ∷ [])
    -- another name; a word of a line or of a run to come; more words than needed
    ∷ (two.session, put (name_place 3 0) 9)
    ∷ (two.session, set (put 3 9) (start_place 3 4) 9)
    ∷ (two.session, two.words ++ replicate 5 9)
    -- entries past the rank
    ∷ (
      record {
        rank = 2;
        shape = 3 ∷ 3 ∷ 9 ∷ 9 ∷ [];
        structure = cross ++ replicate 72 9;
        fed = 2;
        figures = f 4 2 4;
      },
      two.words,
    )
    -- another nonzero byte on one side
    ∷ (structured (set cross 7 255), two.words)
    -- runs 0 and 1 in one group, which no chain joins; and longer ways to a root
    ∷ (held 2 4 3 4, together)
    ∷ (held 2 4 3 4, set together (parent_place 3 3) 2)
    -- with the left byte zero, three runs that touch
    ∷ (apart 3 3, 0 ∷ 3 ∷ row 0 1 0 7 1 ++ row 1 2 1 7 1 ++ row 2 3 2 7 1)
    -- a run of another length, with the total that is then right
    ∷ (held 3 5 4 6, set (set three.words (end_place 3 4) 2) (size_place 3 0) 6)
    -- the roots' fifth words otherwise than their groups' cells; any word at a run that is no root
    ∷ (two.session, sized 4 0)
    ∷ (two.session, put (size_place 3 2) 4294967295)
    ∷ []

unsound_right : map (λ x. sound x.0 x.1) unsound ≡ replicate 33 false
unfolding unsound begun one two three computed
unsound_right = refl

accepted_right : map (λ x. sound x.0 x.1) accepted ≡ replicate 16 true
unfolding accepted begun one two three computed
accepted_right = refl

-- ---- a sound record of another origin is fed and read by the grouping it holds

-- runs 0 and 1 in one group, where the chain rule makes two: a line that joins neither leaves it one
other : FeedResult
other = do_feed (held 2 4 3 4) together 1 line

other_read : ReadResult ℕ
other_read = do_read u8 other.session other.words junk

-- its roots' words are added, and the new runs' lengths: a line that meets the first group alone, and one that joins both
others_sized : map (λ (cells : List Bool). let d = do_feed two.session (sized 3 1) 1 cells in
    (do_sizes d.session d.words (replicate (d.session.figures.runs - d.session.figures.joins) 5)).out)
    ((true ∷ false ∷ false ∷ []) ∷ whole ∷ []) ≡ (4 ∷ 1 ∷ []) ∷ (7 ∷ []) ∷ []
unfolding begun one two computed
others_sized = refl

other_right : (other.said ∷ other_read.said ∷ [] ≡ fed 3 (f 6 5 6) ∷ counted 1 (f 6 5 6) ∷ [])
    × (other_read.out ≡ 1 ∷ 0 ∷ 1 ∷ 1 ∷ 0 ∷ 1 ∷ 1 ∷ 0 ∷ 1 ∷ [])
unfolding other other_read begun one two computed
other_right = (refl, refl)

-- ---- blocks: a frame of shape 2, 2, 2 fed in blocks of 1, 2 and 1 lines, and of 4

abbrev cube : List ℕ
cube = 2 ∷ 2 ∷ 2 ∷ []

-- 27 ones; and faces only, the offsets with one nonzero coordinate
abbrev full : List ℕ
full = replicate 27 1

abbrev faces : List ℕ
faces = replicate 4 0 ++ 1 ∷ replicate 5 0 ++ 1 ∷ 0 ∷ 1 ∷ 1 ∷ 1 ∷ 0 ∷ 1 ∷ replicate 5 0 ++ 1 ∷ replicate 4 0

in_blocks : List ℕ → FeedResult
in_blocks structure =
    let o = do_open cube structure (replicate 25 7) in
    let a = do_feed o.session o.words 1 (true ∷ false ∷ []) in
    let b = do_feed a.session a.words 2 (false ∷ true ∷ true ∷ true ∷ []) in
    do_feed b.session b.words 1 (false ∷ false ∷ [])

at_once : List ℕ → FeedResult
at_once structure =
    let o = do_open cube structure (replicate 25 7) in
    do_feed o.session o.words 4 (true ∷ false ∷ false ∷ true ∷ true ∷ true ∷ false ∷ false ∷ [])

-- the answer, the words, and the numbers that a reading then gives
abbrev Shown : Type 0
Shown = Answer × List ℕ × List ℕ

show : FeedResult → Shown
show d = (d.said, d.words, (do_read u32 d.session d.words (replicate 8 5)).out)

-- one group, two groups
abbrev by_full : Shown
by_full = (
  fed 4 (f 3 2 4),
  0 ∷ 1 ∷ 2 ∷ 3 ∷ 3 ∷ row 0 1 0 7 4 ++ row 1 2 0 7 0 ++ row 0 2 0 7 0 ++ replicate 5 7,
  1 ∷ 0 ∷ 0 ∷ 1 ∷ 1 ∷ 1 ∷ 0 ∷ 0 ∷ [],
)

abbrev by_faces : Shown
by_faces = (
  fed 4 (f 3 1 4),
  0 ∷ 1 ∷ 2 ∷ 3 ∷ 3 ∷ row 0 1 0 7 3 ++ row 1 2 1 7 1 ++ row 0 2 0 7 0 ++ replicate 5 7,
  1 ∷ 0 ∷ 0 ∷ 2 ∷ 1 ∷ 1 ∷ 0 ∷ 0 ∷ [],
)

blocks_right : map show (in_blocks full ∷ at_once full ∷ in_blocks faces ∷ at_once faces ∷ []) ≡ by_full ∷ by_full ∷ by_faces ∷ by_faces ∷ []
unfolding in_blocks at_once show computed
blocks_right = refl

-- seven lines in three blocks and in four; 0 counts as 1, above L as L; ⌈9/6⌉ is 2, so five blocks are enough
blocks_are : blocks 7 3 ∷ blocks 7 4 ∷ blocks 5 0 ∷ blocks 3 9 ∷ blocks 9 6 ∷ []
    ≡ (3 ∷ 3 ∷ 1 ∷ []) ∷ (2 ∷ 2 ∷ 2 ∷ 1 ∷ []) ∷ (5 ∷ []) ∷ (1 ∷ 1 ∷ 1 ∷ []) ∷ (2 ∷ 2 ∷ 2 ∷ 2 ∷ 1 ∷ []) ∷ []
unfolding blocks block_lines chop
blocks_are = refl
