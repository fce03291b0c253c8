-- Rows on reader-writer locks.
use Rattle.std.specs.Prelude.{ℕ, ◌≡◌, [], ◌∷◌, ◌++◌, None, codes}
use Rattle.abt_machine.specs.declared.events.Code.{Code}
use Rattle.abt_machine.specs.declared.events.Wish.TheVariants as wish
use Rattle.abt_machine.specs.declared.operations.Op.TheVariants as op
use Rattle.abt_machine.specs.declared.workload.Parts.{Parts}
use Rattle.abt_machine.specs.Codes.{code_of}
use Rattle.abt_machine.specs.Numbers.{object_no}
use Rattle.abt_machine.specs.Start.{start}
use Rattle.abt_machine.specs.State.{State}
use Rattle.abt_machine.specs.Words.{Text}
use Rattle.abt_rows.specs.Base.{base}

-- What a writer stored is read by those that waited for it, who get the lock together.

abbrev pub write_then_read_text : Text
write_then_read_text =
    base ++
    codes "object 0 rwlock\nunits 3\nunit 0 ult at 0\nwrlock 0\nset 5\nrwstore 0\nyield\nrwunlock 0\n" ++
    codes "unit 1 ult at 0\nrdlock 0\nrwload 0\nprint\nrwunlock 0\nunit 2 ult at 0\nrdlock 0\n" ++
    codes "rwload 0\nprint\nrwunlock 0\nend\n"

abbrev pub write_then_read_journal : Text
write_then_read_journal =
    codes "1 0 take 0 0\n2 0 look 0\n3 0 step 0 0 ok\n4 0 step 0 1 ok\n5 0 step 0 2 ok\n" ++
    codes "6 0 step 0 3 ok\n7 0 put 0 0\n8 0 take 0 1\n9 0 look 1\n10 0 step 1 0 ok\n11 0 take 0 2\n" ++
    codes "12 0 look 2\n13 0 step 2 0 ok\n14 0 take 0 0\n15 0 look 0\n16 0 step 0 4 ok\n17 0 put 1 0\n" ++
    codes "18 0 put 2 0\n19 0 end 0 done\n20 0 take 0 1\n21 0 look 1\n22 0 step 1 1 ok\n" ++
    codes "23 0 step 1 2 ok\n24 0 step 1 3 ok\n25 0 end 1 done\n26 0 take 0 2\n27 0 look 2\n" ++
    codes "28 0 step 2 1 ok\n29 0 step 2 2 ok\n30 0 step 2 3 ok\n31 0 end 2 done\n32 0 miss 0\n"

abbrev pub write_then_read_report : Text
write_then_read_report =
    codes "unit 0 done:\nunit 1 done: 5\nunit 2 done: 5\n" ++
    codes "tally units 3 unborn 0 pool 0 stream 0 blocked 0 done 3 asked 0 access 0 steps 13\n" ++
    codes "finished\n"

-- A reader must not write, and a unit that does not hold the lock has nothing to give up.

abbrev pub reader_refused_text : Text
reader_refused_text =
    base ++
    codes "object 0 rwlock\nunits 1\nunit 0 ult at 0\nrdlock 0\nrdlock 0\nwrlock 0\nrwstore 0\n" ++
    codes "rwunlock 0\nrwunlock 0\nrwunlock 0\nend\n"

abbrev pub reader_refused_journal : Text
reader_refused_journal =
    codes "1 0 take 0 0\n2 0 look 0\n3 0 step 0 0 ok\n4 0 step 0 1 ok\n5 0 step 0 2 rw-held\n" ++
    codes "6 0 step 0 3 not-holder\n7 0 step 0 4 ok\n8 0 step 0 5 ok\n9 0 step 0 6 not-holder\n" ++
    codes "10 0 end 0 done\n11 0 miss 0\n"

abbrev pub reader_refused_report : Text
reader_refused_report =
    codes "unit 0 done: !rw-held !not-holder !not-holder\n" ++
    codes "tally units 1 unborn 0 pool 0 stream 0 blocked 0 done 1 asked 0 access 0 steps 7\nfinished\n"

-- A writer must not ask for the lock again, and gives it up by one call.

abbrev pub writer_refused_text : Text
writer_refused_text =
    base ++
    codes "object 0 rwlock\nunits 1\nunit 0 ult at 0\nwrlock 0\nrdlock 0\nwrlock 0\nrwload 0\n" ++
    codes "rwstore 0\nrwunlock 0\nrwunlock 0\nrwload 0\nrwstore 0\nend\n"

abbrev pub writer_refused_journal : Text
writer_refused_journal =
    codes "1 0 take 0 0\n2 0 look 0\n3 0 step 0 0 ok\n4 0 step 0 1 rw-held\n5 0 step 0 2 rw-held\n" ++
    codes "6 0 step 0 3 ok\n7 0 step 0 4 ok\n8 0 step 0 5 ok\n9 0 step 0 6 not-holder\n" ++
    codes "10 0 step 0 7 not-holder\n11 0 step 0 8 not-holder\n12 0 end 0 done\n13 0 miss 0\n"

abbrev pub writer_refused_report : Text
writer_refused_report =
    codes "unit 0 done: !rw-held !rw-held !not-holder !not-holder !not-holder\n" ++
    codes "tally units 1 unborn 0 pool 0 stream 0 blocked 0 done 1 asked 0 access 0 steps 9\nfinished\n"

-- A lock that is given up goes to all readers before the first that wants to write, in order, and then to this one; a reader behind it waits for it.

abbrev pub served_in_order_text : Text
served_in_order_text =
    base ++
    codes "object 0 rwlock\nunits 5\nunit 0 ult at 0\nwrlock 0\nyield\nrwunlock 0\nunit 1 ult at 0\n" ++
    codes "rdlock 0\nyield\nrwunlock 0\nunit 2 ult at 0\nrdlock 0\nyield\nrwunlock 0\nunit 3 ult at 0\n" ++
    codes "wrlock 0\nset 9\nrwstore 0\nyield\nrwunlock 0\nunit 4 ult at 0\nrdlock 0\nrwload 0\nprint\n" ++
    codes "rwunlock 0\nend\n"

abbrev pub served_in_order_journal : Text
served_in_order_journal =
    codes "1 0 take 0 0\n2 0 look 0\n3 0 step 0 0 ok\n4 0 step 0 1 ok\n5 0 put 0 0\n6 0 take 0 1\n" ++
    codes "7 0 look 1\n8 0 step 1 0 ok\n9 0 take 0 2\n10 0 look 2\n11 0 step 2 0 ok\n12 0 take 0 3\n" ++
    codes "13 0 look 3\n14 0 step 3 0 ok\n15 0 take 0 4\n16 0 look 4\n17 0 step 4 0 ok\n18 0 take 0 0\n" ++
    codes "19 0 look 0\n20 0 step 0 2 ok\n21 0 put 1 0\n22 0 put 2 0\n23 0 end 0 done\n24 0 take 0 1\n" ++
    codes "25 0 look 1\n26 0 step 1 1 ok\n27 0 put 1 0\n28 0 take 0 2\n29 0 look 2\n30 0 step 2 1 ok\n" ++
    codes "31 0 put 2 0\n32 0 take 0 1\n33 0 look 1\n34 0 step 1 2 ok\n35 0 end 1 done\n36 0 take 0 2\n" ++
    codes "37 0 look 2\n38 0 step 2 2 ok\n39 0 put 3 0\n40 0 end 2 done\n41 0 take 0 3\n42 0 look 3\n" ++
    codes "43 0 step 3 1 ok\n44 0 step 3 2 ok\n45 0 step 3 3 ok\n46 0 put 3 0\n47 0 take 0 3\n" ++
    codes "48 0 look 3\n49 0 step 3 4 ok\n50 0 put 4 0\n51 0 end 3 done\n52 0 take 0 4\n53 0 look 4\n" ++
    codes "54 0 step 4 1 ok\n55 0 step 4 2 ok\n56 0 step 4 3 ok\n57 0 end 4 done\n58 0 miss 0\n"

abbrev pub served_in_order_report : Text
served_in_order_report =
    codes "unit 0 done:\nunit 1 done:\nunit 2 done:\nunit 3 done:\nunit 4 done: 9\n" ++
    codes "tally units 5 unborn 0 pool 0 stream 0 blocked 0 done 5 asked 0 access 0 steps 18\n" ++
    codes "finished\n"

-- Of two that want to write, the first gets the lock, and the second after it.

abbrev pub writer_behind_a_writer_text : Text
writer_behind_a_writer_text =
    base ++
    codes "object 0 rwlock\nunits 3\nunit 0 ult at 0\nwrlock 0\nyield\nrwunlock 0\nunit 1 ult at 0\n" ++
    codes "wrlock 0\nset 1\nrwstore 0\nyield\nrwunlock 0\nunit 2 ult at 0\nwrlock 0\nrwload 0\nprint\n" ++
    codes "rwunlock 0\nend\n"

abbrev pub writer_behind_a_writer_journal : Text
writer_behind_a_writer_journal =
    codes "1 0 take 0 0\n2 0 look 0\n3 0 step 0 0 ok\n4 0 step 0 1 ok\n5 0 put 0 0\n6 0 take 0 1\n" ++
    codes "7 0 look 1\n8 0 step 1 0 ok\n9 0 take 0 2\n10 0 look 2\n11 0 step 2 0 ok\n12 0 take 0 0\n" ++
    codes "13 0 look 0\n14 0 step 0 2 ok\n15 0 put 1 0\n16 0 end 0 done\n17 0 take 0 1\n18 0 look 1\n" ++
    codes "19 0 step 1 1 ok\n20 0 step 1 2 ok\n21 0 step 1 3 ok\n22 0 put 1 0\n23 0 take 0 1\n" ++
    codes "24 0 look 1\n25 0 step 1 4 ok\n26 0 put 2 0\n27 0 end 1 done\n28 0 take 0 2\n29 0 look 2\n" ++
    codes "30 0 step 2 1 ok\n31 0 step 2 2 ok\n32 0 step 2 3 ok\n33 0 end 2 done\n34 0 miss 0\n"

abbrev pub writer_behind_a_writer_report : Text
writer_behind_a_writer_report =
    codes "unit 0 done:\nunit 1 done:\nunit 2 done: 1\n" ++
    codes "tally units 3 unborn 0 pool 0 stream 0 blocked 0 done 3 asked 0 access 0 steps 12\n" ++
    codes "finished\n"

-- A unit that reads reads again at once while a writer waits; any other reader waits behind the writer.

abbrev pub reads_again_text : Text
reads_again_text =
    base ++
    codes "object 0 rwlock\nunits 3\nunit 0 ult at 0\nrdlock 0\nyield\nrdlock 0\nrwunlock 0\nyield\n" ++
    codes "rwunlock 0\nunit 1 ult at 0\nwrlock 0\nset 4\nrwstore 0\nrwunlock 0\nunit 2 ult at 0\n" ++
    codes "rdlock 0\nrwload 0\nprint\nrwunlock 0\nend\n"

abbrev pub reads_again_journal : Text
reads_again_journal =
    codes "1 0 take 0 0\n2 0 look 0\n3 0 step 0 0 ok\n4 0 step 0 1 ok\n5 0 put 0 0\n6 0 take 0 1\n" ++
    codes "7 0 look 1\n8 0 step 1 0 ok\n9 0 take 0 2\n10 0 look 2\n11 0 step 2 0 ok\n12 0 take 0 0\n" ++
    codes "13 0 look 0\n14 0 step 0 2 ok\n15 0 step 0 3 ok\n16 0 step 0 4 ok\n17 0 put 0 0\n" ++
    codes "18 0 take 0 0\n19 0 look 0\n20 0 step 0 5 ok\n21 0 put 1 0\n22 0 end 0 done\n23 0 take 0 1\n" ++
    codes "24 0 look 1\n25 0 step 1 1 ok\n26 0 step 1 2 ok\n27 0 step 1 3 ok\n28 0 put 2 0\n" ++
    codes "29 0 end 1 done\n30 0 take 0 2\n31 0 look 2\n32 0 step 2 1 ok\n33 0 step 2 2 ok\n" ++
    codes "34 0 step 2 3 ok\n35 0 end 2 done\n36 0 miss 0\n"

abbrev pub reads_again_report : Text
reads_again_report =
    codes "unit 0 done:\nunit 1 done:\nunit 2 done: 4\n" ++
    codes "tally units 3 unborn 0 pool 0 stream 0 blocked 0 done 3 asked 0 access 0 steps 14\n" ++
    codes "finished\n"

-- Units read at the same time, and what one gives up another goes on reading.

abbrev pub readers_together_text : Text
readers_together_text =
    base ++
    codes "object 0 rwlock\nunits 2\nunit 0 ult at 0\nrdlock 0\nyield\nrwunlock 0\nrwload 0\n" ++
    codes "unit 1 ult at 0\nrdlock 0\nyield\nrwload 0\nprint\nrwunlock 0\nend\n"

abbrev pub readers_together_journal : Text
readers_together_journal =
    codes "1 0 take 0 0\n2 0 look 0\n3 0 step 0 0 ok\n4 0 step 0 1 ok\n5 0 put 0 0\n6 0 take 0 1\n" ++
    codes "7 0 look 1\n8 0 step 1 0 ok\n9 0 step 1 1 ok\n10 0 put 1 0\n11 0 take 0 0\n12 0 look 0\n" ++
    codes "13 0 step 0 2 ok\n14 0 step 0 3 not-holder\n15 0 end 0 done\n16 0 take 0 1\n17 0 look 1\n" ++
    codes "18 0 step 1 2 ok\n19 0 step 1 3 ok\n20 0 step 1 4 ok\n21 0 end 1 done\n22 0 miss 0\n"

abbrev pub readers_together_report : Text
readers_together_report =
    codes "unit 0 done: !not-holder\nunit 1 done: 0\n" ++
    codes "tally units 2 unborn 0 pool 0 stream 0 blocked 0 done 2 asked 0 access 0 steps 9\nfinished\n"

-- A unit that wants to write waits until no unit reads.

abbrev pub waits_for_all_readers_text : Text
waits_for_all_readers_text =
    base ++
    codes "object 0 rwlock\nunits 3\nunit 0 ult at 0\nrdlock 0\nrdlock 0\nyield\nrwunlock 0\nyield\n" ++
    codes "rwunlock 0\nunit 1 ult at 0\nrdlock 0\nyield\nrwunlock 0\nunit 2 ult at 0\nwrlock 0\n" ++
    codes "rwunlock 0\nend\n"

abbrev pub waits_for_all_readers_journal : Text
waits_for_all_readers_journal =
    codes "1 0 take 0 0\n2 0 look 0\n3 0 step 0 0 ok\n4 0 step 0 1 ok\n5 0 step 0 2 ok\n6 0 put 0 0\n" ++
    codes "7 0 take 0 1\n8 0 look 1\n9 0 step 1 0 ok\n10 0 step 1 1 ok\n11 0 put 1 0\n12 0 take 0 2\n" ++
    codes "13 0 look 2\n14 0 step 2 0 ok\n15 0 take 0 0\n16 0 look 0\n17 0 step 0 3 ok\n" ++
    codes "18 0 step 0 4 ok\n19 0 put 0 0\n20 0 take 0 1\n21 0 look 1\n22 0 step 1 2 ok\n" ++
    codes "23 0 end 1 done\n24 0 take 0 0\n25 0 look 0\n26 0 step 0 5 ok\n27 0 put 2 0\n" ++
    codes "28 0 end 0 done\n29 0 take 0 2\n30 0 look 2\n31 0 step 2 1 ok\n32 0 end 2 done\n" ++
    codes "33 0 miss 0\n"

abbrev pub waits_for_all_readers_report : Text
waits_for_all_readers_report =
    codes "unit 0 done:\nunit 1 done:\nunit 2 done:\n" ++
    codes "tally units 3 unborn 0 pool 0 stream 0 blocked 0 done 3 asked 0 access 0 steps 11\n" ++
    codes "finished\n"

-- A unit that ends while it holds the lock goes on holding it.

abbrev pub holder_after_end_text : Text
holder_after_end_text =
    base ++
    codes "object 0 rwlock\nunits 2\nunit 0 ult at 0\nwrlock 0\nunit 1 ult at 0\nrdlock 0\nprint\nend\n"

abbrev pub holder_after_end_journal : Text
holder_after_end_journal =
    codes "1 0 take 0 0\n2 0 look 0\n3 0 step 0 0 ok\n4 0 end 0 done\n5 0 take 0 1\n6 0 look 1\n" ++
    codes "7 0 step 1 0 ok\n8 0 miss 0\n"

abbrev pub holder_after_end_report : Text
holder_after_end_report =
    codes "unit 0 done:\nunit 1 object 0:\n" ++
    codes "tally units 2 unborn 0 pool 0 stream 0 blocked 1 done 1 asked 0 access 0 steps 2\nstuck\n"

-- The number of a lock is 0 at first, and is a writer's to store: it stays when it is loaded and when the lock is given up.

abbrev pub number_stays_text : Text
number_stays_text =
    base ++
    codes "object 0 rwlock\nunits 1\nunit 0 ult at 0\nrdlock 0\nrwload 0\nprint\nrwunlock 0\nwrlock 0\n" ++
    codes "set 6\nrwstore 0\nset 0\nrwload 0\nprint\nrwunlock 0\nset 1\nrdlock 0\nrwload 0\nprint\n" ++
    codes "end\n"

abbrev pub number_stays_journal : Text
number_stays_journal =
    codes "1 0 take 0 0\n2 0 look 0\n3 0 step 0 0 ok\n4 0 step 0 1 ok\n5 0 step 0 2 ok\n" ++
    codes "6 0 step 0 3 ok\n7 0 step 0 4 ok\n8 0 step 0 5 ok\n9 0 step 0 6 ok\n10 0 step 0 7 ok\n" ++
    codes "11 0 step 0 8 ok\n12 0 step 0 9 ok\n13 0 step 0 10 ok\n14 0 step 0 11 ok\n" ++
    codes "15 0 step 0 12 ok\n16 0 step 0 13 ok\n17 0 step 0 14 ok\n18 0 end 0 done\n19 0 miss 0\n"

abbrev pub number_stays_report : Text
number_stays_report =
    codes "unit 0 done: 0 6 6\n" ++
    codes "tally units 1 unborn 0 pool 0 stream 0 blocked 0 done 1 asked 0 access 0 steps 15\n" ++
    codes "finished\n"

-- What units ask of a lock leaves their accumulator, but for a load that goes through.

abbrev pub kept_by_rwlocks_text : Text
kept_by_rwlocks_text =
    base ++
    codes "object 0 rwlock\nunits 1\nunit 0 ult at 0\nset 7\nrwunlock 0\nprint\nrwload 0\nprint\n" ++
    codes "rwstore 0\nprint\nrdlock 0\nprint\nwrlock 0\nprint\nrwstore 0\nprint\nrwunlock 0\nprint\n" ++
    codes "wrlock 0\nprint\nrdlock 0\nprint\nrwstore 0\nprint\nrwunlock 0\nprint\nend\n"

abbrev pub kept_by_rwlocks_journal : Text
kept_by_rwlocks_journal =
    codes "1 0 take 0 0\n2 0 look 0\n3 0 step 0 0 ok\n4 0 step 0 1 not-holder\n5 0 step 0 2 ok\n" ++
    codes "6 0 step 0 3 not-holder\n7 0 step 0 4 ok\n8 0 step 0 5 not-holder\n9 0 step 0 6 ok\n" ++
    codes "10 0 step 0 7 ok\n11 0 step 0 8 ok\n12 0 step 0 9 rw-held\n13 0 step 0 10 ok\n" ++
    codes "14 0 step 0 11 not-holder\n15 0 step 0 12 ok\n16 0 step 0 13 ok\n17 0 step 0 14 ok\n" ++
    codes "18 0 step 0 15 ok\n19 0 step 0 16 ok\n20 0 step 0 17 rw-held\n21 0 step 0 18 ok\n" ++
    codes "22 0 step 0 19 ok\n23 0 step 0 20 ok\n24 0 step 0 21 ok\n25 0 step 0 22 ok\n" ++
    codes "26 0 end 0 done\n27 0 miss 0\n"

abbrev pub kept_by_rwlocks_report : Text
kept_by_rwlocks_report =
    codes "unit 0 done: !not-holder 7 !not-holder 7 !not-holder 7 7 !rw-held 7 !not-holder 7 7 7 !rw-held 7 7 7\n" ++
    codes "tally units 1 unborn 0 pool 0 stream 0 blocked 0 done 1 asked 0 access 0 steps 23\n" ++
    codes "finished\n"

-- How often a unit may read at once.

-- a state in which unit 0 reads so often
abbrev pub reading : Parts → ℕ → State
reading W n = record (start W) { rwlock = λ x. record { writer = None; counts = n ∷ []; wishes = wish.Read ∷ []; number = 0 } }

-- this becomes of one more `rdlock` there
abbrev pub ReadsAgain : ℕ → Code → Type 0
ReadsAgain n c = (W : Parts) → code_of W (reading W n) 0 0 (op.ReadLock (object_no 0)) ≡ c
