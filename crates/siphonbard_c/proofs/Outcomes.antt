-- No two outcomes satisfy the contract of an export, as none satisfy that of the library's function of its name: the
-- clauses are the same.
use Rattle.siphonbard.proofs.Outcomes as outcomes
use Rattle.siphonbard.proofs.Outcomes.{OneOutcome}
use Rattle.siphonbard_c.specs.contracts.siphonbard_check as check
use Rattle.siphonbard_c.proofs.siphonbard_check.Reads as check_reads
use Rattle.siphonbard_c.specs.contracts.siphonbard_check_book as check_book
use Rattle.siphonbard_c.proofs.siphonbard_check_book.Reads as check_book_reads
use Rattle.siphonbard_c.specs.contracts.siphonbard_list as list
use Rattle.siphonbard_c.proofs.siphonbard_list.Reads as list_reads
use Rattle.siphonbard_c.specs.contracts.siphonbard_place as place
use Rattle.siphonbard_c.proofs.siphonbard_place.Reads as place_reads
use Rattle.siphonbard_c.specs.contracts.siphonbard_prepare as prepare
use Rattle.siphonbard_c.proofs.siphonbard_prepare.Reads as prepare_reads
use Rattle.siphonbard_c.specs.contracts.siphonbard_stream_check as stream_check
use Rattle.siphonbard_c.proofs.siphonbard_stream_check.Reads as stream_check_reads
use Rattle.siphonbard_c.specs.contracts.siphonbard_stream_list as stream_list
use Rattle.siphonbard_c.proofs.siphonbard_stream_list.Reads as stream_list_reads
use Rattle.siphonbard_c.specs.contracts.siphonbard_stream_place as stream_place
use Rattle.siphonbard_c.proofs.siphonbard_stream_place.Reads as stream_place_reads
use Rattle.siphonbard_c.specs.contracts.siphonbard_stream_write as stream_write
use Rattle.siphonbard_c.proofs.siphonbard_stream_write.Reads as stream_write_reads
use Rattle.siphonbard_c.specs.contracts.siphonbard_write as write
use Rattle.siphonbard_c.proofs.siphonbard_write.Reads as write_reads

pub check_book_has_one_outcome : OneOutcome check_book.ended check_book_reads.Post
check_book_has_one_outcome = outcomes.siphonbard_check_book_has_one_outcome

pub prepare_has_one_outcome : OneOutcome prepare.ended prepare_reads.Post
prepare_has_one_outcome = outcomes.siphonbard_prepare_has_one_outcome

pub check_has_one_outcome : OneOutcome check.ended check_reads.Post
check_has_one_outcome = outcomes.siphonbard_check_has_one_outcome

pub list_has_one_outcome : OneOutcome list.ended list_reads.Post
list_has_one_outcome = outcomes.siphonbard_list_has_one_outcome

pub place_has_one_outcome : OneOutcome place.ended place_reads.Post
place_has_one_outcome = outcomes.siphonbard_place_has_one_outcome

pub write_has_one_outcome : OneOutcome write.ended write_reads.Post
write_has_one_outcome = outcomes.siphonbard_write_has_one_outcome

pub stream_check_has_one_outcome : OneOutcome stream_check.ended stream_check_reads.Post
stream_check_has_one_outcome = outcomes.siphonbard_stream_check_has_one_outcome

pub stream_list_has_one_outcome : OneOutcome stream_list.ended stream_list_reads.Post
stream_list_has_one_outcome = outcomes.siphonbard_stream_list_has_one_outcome

pub stream_place_has_one_outcome : OneOutcome stream_place.ended stream_place_reads.Post
stream_place_has_one_outcome = outcomes.siphonbard_stream_place_has_one_outcome

pub stream_write_has_one_outcome : OneOutcome stream_write.ended stream_write_reads.Post
stream_write_has_one_outcome = outcomes.siphonbard_stream_write_has_one_outcome
