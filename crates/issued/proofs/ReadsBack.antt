-- reads-back: what the issuer writes, the store reads.
use Rattle.issued.specs.ReadsBack.{ReadsBack}
use Rattle.issued.proofs.ReadBackCalls.{close_reads, puk_reads, policy_reads, key_reads, path_reads, post_reads}

pub reads_back : ReadsBack
reads_back = record {
  closes = close_reads;
  puks = puk_reads;
  policies = policy_reads;
  keys = key_reads;
  paths = path_reads;
  posts = post_reads;
}
