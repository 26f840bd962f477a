mod RightRows
