use Rattle.tsdb_recover.proofs.adopting_laws.what_is_read_of_a_whole_file_is_of_its_points.Goals as goal

pub returns : goal.returns
returns c = λ files told file meta whole says. record {
  bytes = whole.bytes;
  whole = record {
    tree = whole.tree;
    is = whole.is_tree;
    made = whole.is_made;
    file = whole.is_file;
    says = says;
  };
  content_is = whole.content;
}
